-- Bare trees over cells: numbers, truth values, bound names and cells, arithmetic, comparisons and connectives, and `and`, `or` and `sum`
-- of what generators over ranges and truth values go through, and lex signs between rows of cells. So are the structures of views of sets,
-- tuples, records and matrices: no view, no source and no list is left in one. A mark says of a scalar whether it is a truth value.
use Rattle.std.specs.Prelude.{◌≡◌, ℕ, zero, suc, Bool, true, false, List, ◌∷◌, ℤ, Option, Some}
use Rattle.ess_semantics.specs.declared.words.Op1.{Op1}
use Rattle.ess_semantics.specs.declared.words.Op2.{Op2}
use Rattle.ess_semantics.specs.declared.words.Fun.{Fun}
use Rattle.ess_semantics.specs.Values.{Text}
use Rattle.ess_semantics.specs.Names.{Names, look}
use Rattle.ess_semantics.specs.Kinds.{is_bounded}
use Rattle.ess_semantics.specs.Trees.{Ends, name_pat, Ex, Exs, number_ex, truth_ex, name_ex, comp_ex, cell_ex, no_exs, more_exs, Gens, no_gens, over, cond, Dom, bool_dom, int_dom, ex1, ex2, fun1}
use Rattle.ess_flat_laws.specs.Flat.{OneOp, TwoOp}

-- A lex sign of structures.
pub data LexSign : Op2 → Type 0 where
  before : LexSign Op2.LexLt
  not_behind : LexSign Op2.LexLe

-- `and` or `or`.
pub data TruthWord : Fun → Type 0 where
  all_hold : TruthWord Fun.And
  some_holds : TruthWord Fun.Or

-- The tables: whether one holds truth values, and how many axes it has.
module _ (cells : Text → Option (Bool × ℕ)) where
  mutual
    -- The tree is bare where these names are bound, each with its mark, and has this mark.
    pub data Bare : Names Bool → Ex → Bool → Type 0 where
      number : {r : Names Bool} {k : ℤ} → Bare r (number_ex k) false
      truth : {r : Names Bool} {b : Bool} → Bare r (truth_ex b) true
      named : {r : Names Bool} {a : Text} {m : Bool} → look r a ≡ Some m → Bare r (name_ex a) m
      cell : {r : Names Bool} {b : Bool} {n : Text} {k : ℕ} {es : Exs} → cells n ≡ Some (b, k) → Indices r es k → Bare r (cell_ex b n es) b
      one : {r : Names Bool} {b m : Bool} {o : Op1} {x : Ex} → OneOp b o m → Bare r x m → Bare r (ex1 b o x) b
      two : {r : Names Bool} {b m k : Bool} {o : Op2} {x y : Ex} → TwoOp b o m k → Bare r x m → Bare r y k → Bare r (ex2 b o x y) b
      power : {r : Names Bool} {x y : Ex} → Bare r x false → Bare r y false → Bare r (ex2 false Op2.Pow x y) false
      chosen : {r : Names Bool} {x : Ex} → Bare r x true → Bare r (fun1 false Fun.ToInt x) false
      folded : {r t : Names Bool} {f : Fun} {e : Ex} {gs : Gens} → TruthWord f → Ranging r gs t → Bare t e true →
          Bare r (fun1 true f (comp_ex e gs)) true
      added : {r t : Names Bool} {e : Ex} {gs : Gens} → Axes r gs t → Bare t e false → Bare r (fun1 false Fun.Sum (comp_ex e gs)) false
      ordered : {r : Names Bool} {m : Bool} {o : Op2} {x y : Ex} → LexSign o → Row r x m → Row r y m → Bare r (ex2 true o x y) true

    -- So many indices, each a bare number or truth value.
    pub data Indices : Names Bool → Exs → ℕ → Type 0 where
      no_index : {r : Names Bool} → Indices r no_exs zero
      one_index : {r : Names Bool} {m : Bool} {e : Ex} {es : Exs} {k : ℕ} → Bare r e m → Indices r es k → Indices r (more_exs e es) (suc k)

    -- A row of cells, or of what else is bare, over axes.
    pub data Row : Names Bool → Ex → Bool → Type 0 where
      row : {r t : Names Bool} {m : Bool} {e : Ex} {gs : Gens} → Axes r gs t → Bare t e m → Row r (comp_ex e gs) m

    -- Generators over ranges and truth values, with bare conditions; the names behind them.
    pub data Ranging : Names Bool → Gens → Names Bool → Type 0 where
      at_end : {r : Names Bool} → Ranging r no_gens r
      through : {r t : Names Bool} {m : Bool} {a : Text} {d : Dom} {gs : Gens} → Range r d m → Ranging ((a, m) ∷ r) gs t →
          Ranging r (over (name_pat a) d gs) t
      where_holds : {r t : Names Bool} {c : Ex} {gs : Gens} → Bare r c true → Ranging r gs t → Ranging r (cond c gs) t

    -- The same without conditions.
    pub data Axes : Names Bool → Gens → Names Bool → Type 0 where
      no_axis : {r : Names Bool} → Axes r no_gens r
      along : {r t : Names Bool} {m : Bool} {a : Text} {d : Dom} {gs : Gens} → Range r d m → Axes ((a, m) ∷ r) gs t →
          Axes r (over (name_pat a) d gs) t

    -- The truth values, or bounded ranges of bare numbers.
    pub data Range : Names Bool → Dom → Bool → Type 0 where
      truths : {r : Names Bool} → Range r bool_dom true
      numbers : {r : Names Bool} {rs : List Ends} {es : Exs} → is_bounded rs ≡ true → Bounds r es → Range r (int_dom rs es) false

    -- Bare numbers.
    pub data Bounds : Names Bool → Exs → Type 0 where
      no_bound : {r : Names Bool} → Bounds r no_exs
      one_bound : {r : Names Bool} {e : Ex} {es : Exs} → Bare r e false → Bounds r es → Bounds r (more_exs e es)
