use Rattle.std.proofs.Common.{◌≡◌, ℕ, List, [], ◌∷◌, refl, sym, ap, length, arith}
use Rattle.conjure_cli.proofs.reader.first_line.Goals as goal
use Rattle.conjure_cli.proofs.LineLaws.{behind_first, first_of_split}

pub returns-in-Some-clause-lines : goal.returns-in-Some-clause-lines
returns-in-Some-clause-lines c =
    first_of_split _ _ _ _ _ c.requires c.line_len.ensures.len c.split_at.ensures.front c.split_at.ensures.back
    (sym (ap behind_first c.in-Some.ensures.cases.0))

pub returns-in-None-clause-lines : goal.returns-in-None-clause-lines
returns-in-None-clause-lines c =
    first_of_split _ _ _ _ _ c.requires c.line_len.ensures.len c.split_at.ensures.front c.split_at.ensures.back
    (nothing c.split_at.result.1.now c.in-None.ensures.cases)
  where
    nothing : (rest : List ℕ) → length rest ≡ 0 → rest ≡ behind_first rest
    nothing [] h = refl
    nothing (b ∷ rest) h = absurd (omega arith)
