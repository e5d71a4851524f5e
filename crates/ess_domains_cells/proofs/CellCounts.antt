-- The number of cells of a representation, by what is kept of it.
use Rattle.std.proofs.Common.{◌≡◌, sym, ap, ◌∙◌, ℕ, ◌≤◌, ◌<◌, Option, Some, option_map, Result, Ok, Err, IfOk, IfErr, arith}
use Rattle.ess_eval.specs.declared.calls.EvalNo.{EvalNo}
use Rattle.ess_eval.specs.declared.calls.EvalNo.TheVariants.{TooManyCells}
use Rattle.ess_semantics.specs.Trees.{Repr}
use Rattle.ess_semantics.specs.Domains.{Domain}
use Rattle.ess_semantics.specs.Declarations.{cell_count}
use Rattle.ess_domains_cells.specs.Kept.{kept}
use Rattle.ess_domains_cells.specs.Counted.{counted}
use Rattle.ess_domains_cells.proofs.CellsOnTheWay.{counted_is}

small-kept : (c n : ℕ) → n ≡ kept c → n ≤ 16777216 → c ≡ n
small-kept c n e h = grind arith

-- A number of cells below the limit is the number itself.
pub few_cells : (r : Repr) (d : Domain) (c : ℕ) → c ≡ kept (counted r d 1 0) → c ≤ 16777216 → cell_count r d ≡ c
few_cells r d c e h = small-kept (cell_count r d) c (e ∙ ap kept (counted_is r d)) h

-- Any number of cells, kept at the limit.
pub many_cells : (r : Repr) (d : Domain) (c : ℕ) → c ≡ kept (counted r d 1 0) → TooManyCells c ≡ TooManyCells (kept (cell_count r d))
many_cells r d c e = ap TooManyCells (e ∙ ap kept (counted_is r d))

pub many_above : (r : Repr) (d : Domain) (c : ℕ) → c ≡ kept (counted r d 1 0) → 16777216 < c → 16777216 < kept (cell_count r d)
many_above r d c e h = let same : c ≡ kept (cell_count r d) = e ∙ ap kept (counted_is r d) in omega arith

-- ---- where the domain is there

pub told_few : (r : Repr) (d : Domain) (o : Option Domain) (x : Result ℕ EvalNo) → Some d ≡ o → IfOk x (λ n. cell_count r d ≡ n) → IfOk x (λ n. option_map (cell_count r) o ≡ Some n)
told_few r d o (Ok n) s e = ap (option_map (cell_count r)) (sym s) ∙ ap Some e
told_few r d o (Err w) s e = tt

pub told_many : (r : Repr) (d : Domain) (o : Option Domain) (x : Result ℕ EvalNo) (k : ℕ) → Some d ≡ o → IfErr x (λ w. w ≡ TooManyCells (kept (cell_count r d))) → x ≡ Err (TooManyCells k)
    → option_map (λ e. kept (cell_count r e)) o ≡ Some k
told_many r d o (Ok n) k s e p = cc
told_many r d o (Err w) k s e p =
    let same : kept (cell_count r d) ≡ k = cc in
    ap (option_map (λ x. kept (cell_count r x))) (sym s) ∙ ap Some same
