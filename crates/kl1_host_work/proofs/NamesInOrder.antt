-- Accounts' names, in the order of the accounts.
use Rattle.std.proofs.Common.{◌≡◌, ℕ, ◌<◌, List, length, get_or, Some, ap, ◌∙◌}
use Rattle.std.specs.Prelude.{slice_get, option_map}
use Rattle.std.proofs.lemmas.List.{length-map}
use Rattle.std.proofs.lemmas.Option.{slice_get-get_or, slice_get-map}
use Rattle.kl1_session.specs.Files.{Entry}
use Rattle.kl1_session.specs.Views.{entry_view, entries_view}
use Rattle.kl1_session.specs.declared.key.Key.{Key}
use Rattle.kl1_host_work.specs.Fronts.{names_in}

-- there are as many names as keys
pub length_names : (keys : List Key) → length (names_in (entries_view keys)) ≡ length keys
length_names keys = length-map (entries_view keys) (λ (e : Entry). e.name) ∙ length-map keys entry_view

-- the name of an account is at its place
pub name_at : (keys : List Key) (k : ℕ) (d : Key) → k < length keys → slice_get (names_in (entries_view keys)) k ≡ Some (get_or keys k d).name.items
name_at keys k d few =
    slice_get-map (λ (e : Entry). e.name) (entries_view keys) k
    ∙ ap (option_map (λ (e : Entry). e.name)) (slice_get-map entry_view keys k ∙ ap (option_map entry_view) (slice_get-get_or keys k d few))
