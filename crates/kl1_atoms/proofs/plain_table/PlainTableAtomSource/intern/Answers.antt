use Rattle.std.proofs.Common.{◌≡◌, ℕ, ◌+◌, ◌<◌, List, ◌∷◌, [], ◌++◌, None, length, refl, sym, ap, ◌∙◌, inl, inr}
use Rattle.std.proofs.lemmas.Bool.{false≢true}
use Rattle.kl1_model.specs.declared.limits.TheConstants.{FIRST_NUMBER, MOST_NAMES}
use Rattle.kl1_text.specs.BuiltIns.{built_in_of}
use Rattle.kl1_atoms.specs.declared.known.Known.{Known}
use Rattle.kl1_atoms.specs.Names.{number_in, HasRoom}
use Rattle.kl1_atoms.specs.Knowing.{adds_one}
use Rattle.kl1_atoms.proofs.Rows.{seat_after, other_seat_after, held_publishes}
use Rattle.kl1_atoms.proofs.plain_table.PlainTableAtomSource.intern.Goals as goal

-- there is room for a text that isn't known
some_room : (ks : List Known) (t : List ℕ) → built_in_of t ≡ None → number_in ks t ≡ None → HasRoom MOST_NAMES ks t → length ks < MOST_NAMES
some_room ks t own new room = elim room [ inl known ↦ absurd (false≢true (rw (own, new) at known)) | inr few ↦ few ]

-- the text isn't built in
not_built_in : (c : goal.After-learn) → built_in_of c.args.text ≡ None
not_built_in c = sym c.built_in.ensures ∙ c.in_default.is

-- nor is it known
not_known : (c : goal.After-learn) → number_in c.args.seat.now.known.items c.args.text ≡ None
not_known c = sym (rw (c.in_default-number_in.is, c.as_slice.ensures.value) at c.number_in.ensures)

-- so there is room
room_left : (c : goal.After-learn) → length c.args.seat.now.known.items < MOST_NAMES
room_left c = some_room c.args.seat.now.known.items c.args.text (not_built_in c) (not_known c) c.requires.room

-- where the seat of an account is
abbrev in_table : ℕ → (ℕ × ℕ) × ℕ
in_table account = ((0, MOST_NAMES), account)

-- the pair that is learned
pair : (c : goal.After-learn) → Known
pair c = record { text = c.args.text; number = record { number = FIRST_NUMBER + c.place_of-place.result } }

-- what is known after it
now_known : (c : goal.After-learn) → c.learn.new.self.known.items ≡ c.args.seat.now.known.items ++ pair c ∷ []
unfolding pair
now_known c = c.learn.ensures.known ∙ ap (λ v. v.items ++ pair c ∷ []) c.place_of-place.ensures.known

pub returns-clause-of : goal.returns-clause-of
unfolding pair
returns-clause-of c =
    rw (now_known c, c.learn.ensures.account, c.learn.ensures.used, c.place_of-place.ensures.account)
    (seat_after c.args.self.now.places.items c.place_of-place.new.self.places.items c.args.seat.now.account c.args.seat.now.used c.place_of-place.new.seat.used c.place_of-place.result
    c.args.text (pair c) c.args.seat.now.known.items c.requires.of (room_left c) c.place_of-place.ensures.name (not_built_in c) c.place_of-place.ensures.held refl refl)

pub returns-clause-others : goal.returns-clause-others
returns-clause-others c = λ other its differ.
    other_seat_after c.args.self.now.places.items c.place_of-place.new.self.places.items c.args.seat.now.account c.args.seat.now.used c.place_of-place.new.seat.used c.place_of-place.result
    c.args.text c.args.seat.now.known.items c.requires.of (room_left c) c.place_of-place.ensures.name (not_built_in c) c.place_of-place.ensures.held other.account other.used other.known.items
    (λ same. differ (ap in_table same)) its

pub returns-clause-adds : goal.returns-clause-adds
unfolding pair
returns-clause-adds c = rw (now_known c) (adds_one c.args.seat.now.known.items c.args.text (pair c).number (not_built_in c) (not_known c))

pub returns-clause-publishes : goal.returns-clause-publishes
unfolding pair
returns-clause-publishes c =
    rw (now_known c, c.learn.ensures.used)
    (held_publishes c.args.self.now.places.items c.place_of-place.new.self.places.items c.args.seat.now.account c.args.seat.now.used c.place_of-place.new.seat.used c.place_of-place.result c.args.text
    c.args.seat.now.known.items (pair c) c.place_of-place.ensures.held)
