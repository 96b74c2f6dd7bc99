use Rattle.std.proofs.Common.{◌≡◌, ◌∙◌, Some, true, ap, sym, refl, arith, length, bytes_eq, List, ℕ}
use Rattle.std.proofs.lemmas.Option.{slice_get_read}
use Rattle.std.proofs.lemmas.Slice.Eq.{bytes_eq-Decides}
use Rattle.kl1_script.proofs.accounts.place_in.Goals as goal

pub returns-then-is_same-clause-some : goal.returns-then-is_same-clause-some
returns-then-is_same-clause-some c =
    let found = c.index-accounts-place.result in
    let test : bytes_eq c.args.name.now found ≡ true = cc in
    let same : c.args.name.now ≡ found = (bytes_eq-Decides c.args.name.now found).0 test in
    slice_get_read c.args.accounts.now (length c.args.accounts.now) c.loop-place.place found refl (omega arith) c.index-accounts-place.is ∙ ap (λ (x : List ℕ). Some x) (sym same)
