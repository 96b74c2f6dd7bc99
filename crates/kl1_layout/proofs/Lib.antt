pub mod WrittenSteps
pub mod PieceSteps
pub mod TokensWritten
pub mod ClausesStay
pub mod LayoutFacts
pub mod LastBlanks
pub mod Alike
