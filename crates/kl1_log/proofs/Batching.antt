-- What a crash leaves while a file is changed.
use Rattle.std.proofs.Common.{ℕ, []}
use Rattle.std.specs.Prelude.{Some, None, Vec}
use Rattle.std.specs.declared.alloc.Global.{Global}
use Rattle.kl1_sums.specs.Sums.{summed_text}
use Rattle.kl1_log.specs.declared.change.Change.TheVariants.{Appends, Begins}
use Rattle.kl1_log.specs.Files.{Known, AtAnyMoment}
use Rattle.kl1_log.specs.Batches.{IsLeftOfKnown, IsSummedInPart, IsOldOrNew}

pub appends_so : (k m : Known) (bytes : Vec ℕ Global) → AtAnyMoment k m (IsSummedInPart k bytes.items) → AtAnyMoment k m (IsLeftOfKnown k (Appends bytes))
appends_so None m bytes so = so
appends_so (Some c) m bytes so = so

pub begins_so : (k m : Known) (bytes : Vec ℕ Global) → AtAnyMoment k m (IsOldOrNew k (summed_text [] bytes.items)) → AtAnyMoment k m (IsLeftOfKnown k (Begins bytes))
begins_so None m bytes so = so
begins_so (Some c) m bytes so = so
