use Rattle.std.proofs.Common.{◌≡◌, ◌≤◌, ◌<◌, ◌-◌, ◌∷◌, ◌∙◌, List, length, vec_len, take, inl, inr, refl, ap, arith, rules}
use Rattle.kl1_host_front.specs.declared.wrong_keys.TheConstants.{MOST_REMEMBERED}
use Rattle.kl1_host_front.specs.declared.wrong_keys.Wrong.{Wrong}
use Rattle.kl1_host_front.specs.Pauses.{wrongs_in}
use Rattle.kl1_host_front.proofs.WrongKeys.{added_others, moved_others, but_last, one_out}
use Rattle.kl1_host_front.proofs.wrong_keys.Pauses.note_wrong.Goals as goal
use Rattle.kl1_host_front.proofs.wrong_keys.Pauses.note_wrong.Goals.{then-place-len, else-place-len+then-len-ge-MOST_REMEMBERED, else-place-len+else-len-ge-MOST_REMEMBERED}

-- the one who was there is moved to the front, or a new one is put there, without the last if there is no room
pub returns-clause-others : goal.returns-clause-others
returns-clause-others c =
    let new : Wrong = record { who = c.args.who; count = c.one_more-count.result; last = c.args.now } in
    let before : List Wrong = wrongs_in c.args.self.now in
    let added : c.insert.new.self.items ≡ new ∷ c.if-place-len.self.1.0.items = search rules in
    elim c.if-place-len.branch [
      | then-place-len w ↦
          let within : c.place_of-place.result < length before = search rules in
          inl (moved_others before c.if-place-len.self.1.0.items c.insert.new.self.items new c.place_of-place.result c.args.who within c.place_of-place.ensures.there (ap (λ s. s.1.0.items) w.self-is ∙ w.remove.ensures.items) added refl)
      | else-place-len+then-len-ge-MOST_REMEMBERED w ↦
          let full : MOST_REMEMBERED ≤ length before = omega (arith, w.if-len-ge-MOST_REMEMBERED.true, w.len-else-place-len.ensures) in
          let some : 0 < vec_len c.args.self.now.wrongs = omega (arith, w.if-len-ge-MOST_REMEMBERED.true, w.len-else-place-len.ensures) in
          inr (full, added_others (take (length before - 1) before) c.insert.new.self.items new c.args.who (added ∙ ap (λ s. new ∷ s.1.0.items) w.self-is ∙ ap (λ (ws : List Wrong). new ∷ ws) (but_last _ _ before w.pop.ensures.items (one_out w.pop.result (vec_len c.args.self.now.wrongs) _ some w.pop.ensures.cases))) refl)
      | else-place-len+else-len-ge-MOST_REMEMBERED w ↦
          inl (added_others before c.insert.new.self.items new c.args.who (added ∙ ap (λ s. new ∷ s.1.0.items) w.self-is) refl)
    ]
