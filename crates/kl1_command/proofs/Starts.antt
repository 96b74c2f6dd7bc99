-- A start whose priorities are out of order or too great is none, and neither is an answer to a report before the first.
use Rattle.std.proofs.Common.{◌≡◌, ℕ, ◌<◌, nat_le, None, refl}
use Rattle.std.proofs.lemmas.Bool.{lt-leb, and_left, and_right}
use Rattle.kl1_model.specs.declared.limits.TheConstants.{MOST_PRIORITY}
use Rattle.kl1_model.specs.Term.{Term}
use Rattle.kl1_model.specs.Module.{Reading, good, bad}
use Rattle.kl1_model_server.specs.Command.{start_with, answer_with}

pub out_of_order : (allowance low high : ℕ) (r : Reading Term) → high < low → None ≡ start_with allowance low high r
out_of_order allowance low high (good t) h = rw (and_left (nat_le low high) (nat_le high MOST_PRIORITY) (lt-leb low high h)) refl
out_of_order allowance low high (bad n) h = refl

pub too_great : (allowance low high : ℕ) (r : Reading Term) → MOST_PRIORITY < high → None ≡ start_with allowance low high r
too_great allowance low high (good t) h = rw (and_right (nat_le low high) (nat_le high MOST_PRIORITY) (lt-leb high MOST_PRIORITY h)) refl
too_great allowance low high (bad n) h = refl

pub no_report : (n report : ℕ) (r : Reading Term) → report < 1 → None ≡ answer_with n report r
no_report n report (good t) h = rw (lt-leb 1 report h) refl
no_report n report (bad line) h = refl
