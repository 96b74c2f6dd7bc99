-- The lines of a text before one of them, counted from its front.
use Rattle.std.proofs.Common.{◌≡◌, ℕ, ◌-◌, ◌≤◌, List, [], ◌++◌, length, take, sym, ap, ◌∙◌, arith}
use Rattle.std.proofs.Math.Seq.{take-append_seam}
use Rattle.std.proofs.lemmas.List.{append-nil, length-append, take_all}
use Rattle.kl1_model_server.specs.Command.{written_lines}
use Rattle.kl1_model_server.specs.JournalText.{Lines, lines_of}
use Rattle.kl1_log.specs.Cuts.{whole_lines}
use Rattle.kl1_log.proofs.Faults.{IsSplit}

-- as many lines of a text, by another name of their number
pub as_many : {n k : ℕ} (text : List ℕ) → n ≡ k → written_lines (take n (whole_lines text)) ≡ written_lines (take k (whole_lines text))
as_many text is = ap (λ (x : ℕ). written_lines (take x (whole_lines text))) is

-- the bytes before what is left are the lines that were counted
lines_cut : (text rest : List ℕ) (count lines : ℕ) (s : IsSplit text rest count) → s.0 ≡ take lines (whole_lines text) → take (length text - length rest) text ≡ written_lines (take lines (whole_lines text))
lines_cut text rest count lines s is =
    let long = ap (length {A = ℕ}) s.3 in
    let at : length text - length rest ≡ length (written_lines s.0) = omega (arith, long, length-append (written_lines s.0) rest) in
    ap (λ (n : ℕ). take n text) at
    ∙ ap (take (length (written_lines s.0))) s.3
    ∙ take-append_seam (written_lines s.0) rest
    ∙ ap written_lines is

-- as many lines as were asked for
pub cut_whole : (text rest : List ℕ) (count lines : ℕ) → IsSplit text rest count → count ≡ lines → take (length text - length rest) text ≡ written_lines (take lines (whole_lines text))
cut_whole text rest count lines s same =
    lines_cut text rest count lines s (sym (ap (take lines) s.2 ∙ ap (λ (n : ℕ). take n (s.0 ++ whole_lines rest)) (sym (s.1 ∙ same)) ∙ take-append_seam s.0 (whole_lines rest)))

-- there are no more
pub cut_short : (text rest : List ℕ) (count lines : ℕ) → IsSplit text rest count → count ≤ lines → lines_of rest ≡ record { whole = []; rest = rest } → take (length text - length rest) text ≡ written_lines (take lines (whole_lines text))
cut_short text rest count lines s few none =
    let n = s.1 in
    let all : whole_lines text ≡ s.0 = s.2 ∙ ap (λ (ls : Lines). s.0 ++ ls.whole) none ∙ append-nil s.0 in
    lines_cut text rest count lines s (sym (ap (take lines) all ∙ take_all lines s.0 (omega (arith, n, few))))
