-- What the rule of the shared table shows.
use Rattle.kl1_atoms.specs.Rule.{At}
use Rattle.kl1_atoms.specs.Knowing.{are_names}
use Rattle.kl1_atoms.specs.Laws.{RuleShowsNames}
use Rattle.kl1_atoms.proofs.Facing.{is_table, seen_stands, no_text_twice, agreed}

pub shows_names : RuleShowsNames
shows_names n s kept = record {
  table = is_table n s.words kept.sound;
  known = λ id k f mine. (kept.fits id k f mine).known;
  noted = λ id k f h mine is. seen_stands n s.words f.heard h (kept.fits id k f mine).heard is;
  names = λ id k f mine. are_names (At n s.words) f.knows (is_table n s.words kept.sound) (kept.fits id k f mine).known;
  agreed = λ id k other l f g mine its. agreed n s.words f g kept.sound (kept.fits id k f mine) (kept.fits other l g its);
  once = λ i j d e t st su. no_text_twice n s.words i j d e t kept.sound st su;
}
