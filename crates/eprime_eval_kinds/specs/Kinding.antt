-- What the parts of a model become as they are evaluated, under declarations with these shapes, where generators around them
-- bind names of these kinds. The marks of the read tree's cells play no part, so it is said for every scope.
use Rattle.std.specs.Prelude.{◌≡◌, List, [], ◌∷◌, ◌++◌, map, Option, Some, None, option_map}
use Rattle.ess_semantics.specs.Names.{Names}
use Rattle.ess_semantics.specs.Trees.{both_ends, low_end, high_end, Ex, name_ex, Gens, over, cond, name_pat}
use Rattle.ess_semantics.specs.Types.{Ty}
use Rattle.ess_semantics.specs.DeclaredTables.{TableDecl}
use Rattle.ess_semantics.specs.ModelMeaning as model
use Rattle.ess_semantics.specs.ModelMeaning.{with_gen, as_bound}
use Rattle.ess_grammar.specs.Models.{Scope}
use Rattle.eprime_tree.specs.declared.expressions.PEx.{PEx}
use Rattle.eprime_tree.specs.declared.expressions.PList.{PList}
use Rattle.eprime_tree.specs.declared.expressions.PGen.{PGen}
use Rattle.eprime_tree.specs.declared.expressions.PDom.{PDom}
use Rattle.eprime_tree.specs.declared.expressions.PRange.{PRange}
use Rattle.eprime_tree.specs.Views.{Item, over_item, cond_item, Bounds, exs_of, gens_of, pure_ex, pure_list, pure_gen, pure_dom, pure_range}
use Rattle.eprime_eval_kinds.specs.declared.declared.Shape.{Shape}
use Rattle.eprime_eval_kinds.specs.declared.nodes.KindedEx.{KindedEx}
use Rattle.eprime_eval_kinds.specs.declared.lists.KindedList.{KindedList}
use Rattle.eprime_eval_kinds.specs.declared.lists.KindedRow.{KindedRow}
use Rattle.eprime_eval_kinds.specs.declared.tree.KEx.{KEx}
use Rattle.eprime_eval_kinds.specs.declared.tree.KGen.{KGen}
use Rattle.eprime_eval_kinds.specs.declared.tree.KDom.{KDom}
use Rattle.eprime_eval_kinds.specs.declared.tree.KRange.{KRange}
use Rattle.eprime_eval_kinds.specs.KindedViews.{pure_kex, pure_kinded, pure_kgen, pure_kdom, pure_krange}
use Rattle.eprime_eval_kinds.specs.KindedLists.{pure_listed, pure_row}
use Rattle.eprime_eval_kinds.specs.Shapes.{shape_of, names_of}

-- One more item in front.
abbrev pub with_item : Item → Gens → Gens
with_item (over_item a d) gs = over (name_pat a) d gs
with_item (cond_item e) gs = cond e gs

-- A comprehension with more items in front, and its kind.
abbrev pub with_items : List Item → model.Kinded → model.Kinded
with_items [] k = k
with_items (i ∷ is) k = with_gen (with_item i) (with_items is k)

-- Bounds, of which those of another kind have nothing.
abbrev pub bounds_by : (Ex → model.Kinded) → Bounds → Bounds
bounds_by f b = (b.0, map (λ e. as_bound (f e)) b.1)

-- The range of these bounds. Where both are missing, which no text has, they have nothing.
abbrev pub ends_of : Option Ex → Option Ex → Bounds
ends_of None None = (both_ends, name_ex [] ∷ name_ex [] ∷ [])
ends_of None (Some b) = (high_end, b ∷ [])
ends_of (Some a) None = (low_end, a ∷ [])
ends_of (Some a) (Some b) = (both_ends, a ∷ b ∷ [])

module _ (ss : List Shape) where
  -- An expression with its kind.
  pub record IsKinded (g : Names Ty) (e : PEx) (k : KindedEx) : Type 0 where
    pub means : (ds : List TableDecl) (s : Scope) → map shape_of ds ≡ ss → pure_kinded (names_of ss) k ≡ model.kinded ds (pure_ex s e) g

  -- Several expressions with their kinds.
  pub record AreKinded (g : Names Ty) (es : List PEx) (r : KindedRow) : Type 0 where
    pub means : (ds : List TableDecl) (s : Scope) → map shape_of ds ≡ ss
        → pure_row (names_of ss) r ≡ model.kinded_all ds (exs_of (map (pure_ex s) es)) g

  -- A list with its kind, or what has nothing.
  pub record IsKindedList (g : Names Ty) (l : PList) (o : Option KindedList) : Type 0 where
    pub means : (ds : List TableDecl) (s : Scope) → map shape_of ds ≡ ss → pure_listed (names_of ss) o ≡ model.kinded ds (pure_list s l) g

  -- Generators and conditions, which bring names into scope: h are then the kinds of all.
  pub record AreKindedGens (g : Names Ty) (xs : List PGen) (ks : List KGen) (h : Names Ty) : Type 0 where
    pub means : (ds : List TableDecl) (s : Scope) → map shape_of ds ≡ ss → (is : List Item) (k : Names Ty → model.Kinded)
        → model.kinded_under ds (gens_of (map (pure_gen s) xs ++ is)) g k
        ≡ with_items (map (pure_kgen (names_of ss)) ks) (model.kinded_under ds (gens_of is) h k)

  -- A generator or a condition.
  abbrev pub IsKindedGen : Names Ty → PGen → KGen → Names Ty → Type 0
  IsKindedGen g x k h = AreKindedGens g (x ∷ []) (k ∷ []) h

  -- A bound of a range.
  pub record IsKindedBound (g : Names Ty) (e : PEx) (k : KEx) : Type 0 where
    pub means : (ds : List TableDecl) (s : Scope) → map shape_of ds ≡ ss
        → pure_kex (names_of ss) k ≡ as_bound (model.kinded ds (pure_ex s e) g)

  -- A bound that may be missing.
  pub record IsKindedEnd (g : Names Ty) (o : Option PEx) (k : Option KEx) : Type 0 where
    pub means : (ds : List TableDecl) (s : Scope) → map shape_of ds ≡ ss
        → option_map (pure_kex (names_of ss)) k ≡ option_map (λ e. as_bound (model.kinded ds (pure_ex s e) g)) o

  -- A domain.
  pub record IsKindedDom (g : Names Ty) (d : PDom) (k : KDom) : Type 0 where
    pub means : (ds : List TableDecl) (s : Scope) → map shape_of ds ≡ ss → pure_kdom (names_of ss) k ≡ model.kinded_dom ds (pure_dom s d) g

  -- A range.
  pub record IsKindedRange (g : Names Ty) (r : PRange) (k : KRange) : Type 0 where
    pub means : (ds : List TableDecl) (s : Scope) → map shape_of ds ≡ ss
        → pure_krange (names_of ss) k ≡ bounds_by (λ e. model.kinded ds e g) (pure_range s r)

  -- Several ranges.
  pub record AreKindedRanges (g : Names Ty) (rs : List PRange) (ks : List KRange) : Type 0 where
    pub means : (ds : List TableDecl) (s : Scope) → map shape_of ds ≡ ss
        → map (pure_krange (names_of ss)) ks ≡ map (bounds_by (λ e. model.kinded ds e g)) (map (pure_range s) rs)
