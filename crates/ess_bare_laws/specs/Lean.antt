-- Lean trees: those that rules end in, and those that are written for them on each step. They are as bare trees are, but that sums may have
-- conditions, that a fold may be over a list of items and `max` over one of two, that numbers and bound names have properties, and that
-- indices may be asked to be numbers.
use Rattle.std.specs.Prelude.{◌≡◌, ℕ, zero, suc, Bool, true, false, List, ◌∷◌, ℤ, Option, Some}
use Rattle.ess_semantics.specs.declared.words.Op1.{Op1}
use Rattle.ess_semantics.specs.declared.words.Op2.{Op2}
use Rattle.ess_semantics.specs.declared.words.Fun.{Fun}
use Rattle.ess_semantics.specs.Values.{Text}
use Rattle.ess_semantics.specs.Names.{Names, look}
use Rattle.ess_semantics.specs.Kinds.{is_bounded}
use Rattle.ess_semantics.specs.Trees.{Ends, matrix_literal, name_pat, Ex, Exs, number_ex, truth_ex, name_ex, node_ex, comp_ex, cell_ex, no_exs, more_exs, Gens, no_gens, over, cond, bool_dom, int_dom, ex1, ex2, fun1}
use Rattle.ess_flat_laws.specs.Flat.{OneOp, TwoOp}
use Rattle.ess_bare_laws.specs.Bare.{LexSign}

-- A word that folds a list, and the mark of the items.
pub data FoldWord : Bool → Fun → Type 0 where
  of_all : FoldWord true Fun.And
  of_some : FoldWord true Fun.Or
  of_sum : FoldWord false Fun.Sum

-- A mark of terms, where they may be asked to be numbers.
pub data Allowed : Bool → Bool → Type 0 where
  as_scalar : {m : Bool} → Allowed false m
  as_number : {w : Bool} → Allowed w false

module _ (cells : Text → Option (Bool × ℕ)) (ok : ℤ → Bool) (fine : Text → Bool) (plain : Bool) where
  mutual
    -- The tree is lean where these names are bound, each with its mark, and has this mark.
    pub data Lean : Names Bool → Ex → Bool → Type 0 where
      a_number : {r : Names Bool} {k : ℤ} → ok k ≡ true → Lean r (number_ex k) false
      a_truth : {r : Names Bool} {b : Bool} → Lean r (truth_ex b) true
      a_name : {r : Names Bool} {a : Text} {m : Bool} → look r a ≡ Some m → Lean r (name_ex a) m
      a_cell : {r : Names Bool} {b : Bool} {n : Text} {k : ℕ} {es : Exs} → cells n ≡ Some (b, k) → Terms plain r es k →
          Lean r (cell_ex b n es) b
      by_one : {r : Names Bool} {b m : Bool} {o : Op1} {x : Ex} → OneOp b o m → Lean r x m → Lean r (ex1 b o x) b
      by_two : {r : Names Bool} {b m k : Bool} {o : Op2} {x y : Ex} → TwoOp b o m k → Lean r x m → Lean r y k → Lean r (ex2 b o x y) b
      by_power : {r : Names Bool} {x y : Ex} → Lean r x false → Lean r y false → Lean r (ex2 false Op2.Pow x y) false
      by_truth : {r : Names Bool} {x : Ex} → Lean r x true → Lean r (fun1 false Fun.ToInt x) false
      by_fold : {r t : Names Bool} {b : Bool} {f : Fun} {e : Ex} {gs : Gens} → FoldWord b f → Ranging r gs t → Lean t e b →
          Lean r (fun1 b f (comp_ex e gs)) b
      by_items : {r : Names Bool} {b : Bool} {f : Fun} {es : Exs} → FoldWord b f → Leans r es b →
          Lean r (fun1 b f (node_ex false matrix_literal es)) b
      by_greatest : {r : Names Bool} {x y : Ex} → Lean r x false → Lean r y false →
          Lean r (fun1 false Fun.Max (node_ex false matrix_literal (more_exs x (more_exs y no_exs)))) false
      by_order : {r : Names Bool} {m : Bool} {o : Op2} {x y : Ex} → LexSign o → Row r x m → Row r y m → Lean r (ex2 true o x y) true

    -- One item or several, each with this mark.
    pub data Leans : Names Bool → Exs → Bool → Type 0 where
      last_lean : {r : Names Bool} {m : Bool} {e : Ex} → Lean r e m → Leans r (more_exs e no_exs) m
      more_leans : {r : Names Bool} {m : Bool} {e : Ex} {es : Exs} → Lean r e m → Leans r es m → Leans r (more_exs e es) m

    -- So many terms: numbers, where that is asked.
    pub data Terms : Bool → Names Bool → Exs → ℕ → Type 0 where
      no_terms : {w : Bool} {r : Names Bool} → Terms w r no_exs zero
      more_terms : {w m : Bool} {r : Names Bool} {e : Ex} {es : Exs} {k : ℕ} → Allowed w m → Lean r e m → Terms w r es k →
          Terms w r (more_exs e es) (suc k)

    -- A list beside a lex sign.
    pub data Row : Names Bool → Ex → Bool → Type 0 where
      listed : {r t : Names Bool} {m : Bool} {e : Ex} {gs : Gens} → Ranging r gs t → Lean t e m → Row r (comp_ex e gs) m
      alone : {r : Names Bool} {m : Bool} {e : Ex} → Lean r e m → Row r (node_ex false matrix_literal (more_exs e no_exs)) m

    -- Generators over ranges and truth values, with conditions; the names behind them.
    pub data Ranging : Names Bool → Gens → Names Bool → Type 0 where
      behind_all : {r : Names Bool} → Ranging r no_gens r
      over_truths : {r t : Names Bool} {a : Text} {gs : Gens} → fine a ≡ true → Ranging ((a, true) ∷ r) gs t →
          Ranging r (over (name_pat a) bool_dom gs) t
      over_numbers : {r t : Names Bool} {a : Text} {rs : List Ends} {es : Exs} {k : ℕ} {gs : Gens} → fine a ≡ true → is_bounded rs ≡ true →
          Terms true r es k → Ranging ((a, false) ∷ r) gs t → Ranging r (over (name_pat a) (int_dom rs es) gs) t
      under : {r t : Names Bool} {c : Ex} {gs : Gens} → Lean r c true → Ranging r gs t → Ranging r (cond c gs) t

-- What rules end in: nothing is asked of numbers, of bound names and of indices.
abbrev pub Ended : (Text → Option (Bool × ℕ)) → Names Bool → Ex → Bool → Type 0
Ended cells = Lean cells (λ k. true) (λ a. true) false
