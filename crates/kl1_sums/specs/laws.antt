pub mod SumLaws
