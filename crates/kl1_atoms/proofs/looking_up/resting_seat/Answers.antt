use Rattle.std.proofs.Common.{◌≡◌, [], ◌∷◌, sym, ap, ◌∙◌, subst, arith}
use Rattle.kl1_atoms.specs.declared.face.Face.{Face}
use Rattle.kl1_atoms.specs.Rule.{Listed}
use Rattle.kl1_atoms.specs.Knowing.{no_names}
use Rattle.kl1_atoms.specs.Seats.{face_in, resting, new_face}
use Rattle.kl1_atoms.proofs.looking_up.resting_seat.Goals as goal

pub invariant_of-result : goal.invariant_of-result
invariant_of-result c =
    let e : c.into_badge.result.views ≡ resting (new_face c.requires.0 c.requires.1 c.args.first) = c.into_badge.ensures.2 ∙ ap (λ m. m.0 ∷ []) c.requires.3 in
    let f : face_in c.into_badge.result.views ≡ new_face c.requires.0 c.requires.1 c.args.first = ap face_in e in
    record {
      rests = e ∙ ap resting (sym f);
      first_is = ap (λ (g : Face). g.first) f;
      range = rw f c.requires.2;
      used_is = ap (λ (g : Face). g.used) f;
      used_up = omega arith;
      bound = omega arith;
      draft = ap (λ (g : Face). g.draft) f;
      names = subst (λ (g : Face). Listed g.entries g.knows) (sym f) (let none : Listed c.requires.0 [] = record { names = no_names; entries = λ t m e. cc } in none);
    }
