-- Variables of a store that tests wait for.
pub use Rattle.kl1_store.specs.Unbound.{IsUnbound}
