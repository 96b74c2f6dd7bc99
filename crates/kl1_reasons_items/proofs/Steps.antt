-- One byte more of a text.
use Rattle.std.specs.Prelude.{◌≡◌, ◌≢◌, ℕ, zero, suc, ◌+◌, ◌<◌, ◌==◌, ◌&&◌, Bool, true, false, if◌then◌else◌, List, [], ◌∷◌, length, take, drop, get_or}
use Rattle.std.proofs.Common.{refl, ap, ◌∙◌, drop-cons, add-one, eqb-true}
use Rattle.kl1_reasons_items.specs.declared.place.Place.{Place}
use Rattle.kl1_reasons_items.specs.declared.within.Within.{Within}
use Rattle.kl1_reasons_items.specs.Places.{first_place, next_place, place_behind, place_of}
use Rattle.kl1_reasons_items.specs.Items.{within_behind, is_plain, ends_before, behind_item}

heads : (b c : ℕ) (bs cs : List ℕ) → b ∷ bs ≡ c ∷ cs → b ≡ c
heads b c bs cs h = cc

place_from : (p : Place) (at : ℕ) (text : List ℕ) (b : ℕ) (bs : List ℕ) → drop at text ≡ b ∷ bs → place_behind p (take (suc at) text) ≡ next_place (place_behind p (take at text)) b
place_from p zero [] b bs h = cc
place_from p zero (c ∷ text) b bs h = ap (next_place p) (heads c b text bs h)
place_from p (suc at) [] b bs h = cc
place_from p (suc at) (c ∷ text) b bs h = place_from (next_place p c) at text b bs h

line_case : (x : Bool) (p : Place) → (let q : Place = if x then record { line = suc p.line; column = 1 } else record { line = p.line; column = suc p.column } in q.line) ≡ (if x then suc p.line else p.line)
line_case true p = refl
line_case false p = refl

-- the line of what follows the byte at a place
pub next_line_of : (text : List ℕ) (at d : ℕ) → at < length text → (place_of text (at + 1)).line ≡ (if get_or text at d == 10 then (place_of text at).line + 1 else (place_of text at).line)
next_line_of text at d lt =
    rw (add-one, add-one)
    (ap (λ (p : Place). p.line) (place_from first_place at text (get_or text at d) (drop (suc at) text) (drop-cons text at d lt))
    ∙ line_case (get_or text at d == 10) (place_of text at))

-- what is after an item that goes on at a place
pub behind_next : (w : Within) (text : List ℕ) (at d : ℕ) → at < length text → behind_item w (drop at text) ≡ (if is_plain w && get_or text at d == 46 && ends_before (drop (at + 1) text) then drop (at + 1) text else behind_item (within_behind w (get_or text at d)) (drop (at + 1) text))
behind_next w text at d lt = rw add-one (ap (behind_item w) (drop-cons text at d lt))

-- the line after a line feed is the next one
pub behind_feed : (text : List ℕ) (at d : ℕ) → at < length text → get_or text at d ≡ 10 → (place_of text (at + 1)).line ≡ (place_of text at).line + 1
behind_feed text at d lt is = next_line_of text at d lt ∙ ap (λ b. if b == 10 then (place_of text at).line + 1 else (place_of text at).line) is

other_case : (x : Bool) (b m n : ℕ) → (b == 10) ≡ x → b ≢ 10 → (if x then m else n) ≡ n
other_case true b m n is apart = absurd (apart (eqb-true b 10 is))
other_case false b m n is apart = refl

-- after another byte the line is the same
pub behind_other : (text : List ℕ) (at d : ℕ) → at < length text → get_or text at d ≢ 10 → (place_of text (at + 1)).line ≡ (place_of text at).line
behind_other text at d lt apart = next_line_of text at d lt ∙ other_case (get_or text at d == 10) (get_or text at d) ((place_of text at).line + 1) ((place_of text at).line) refl apart
