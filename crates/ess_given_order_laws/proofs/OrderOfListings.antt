-- Listings, numbers that are there everywhere, and generators taken apart keep comprehensions in order where order counts.
use Rattle.std.proofs.Common.{◌≡◌, refl, sym, subst, Bool, true, false, if◌then◌else◌, List, [], ◌∷◌, pos, Option, Some, None, option_map}
use Rattle.ess_semantics.specs.declared.words.Op1.{Op1}
use Rattle.ess_semantics.specs.declared.words.Op2.{Op2}
use Rattle.ess_semantics.specs.declared.words.Fun.{Fun}
use Rattle.ess_semantics.specs.Lists.{or_else}
use Rattle.ess_semantics.specs.Values.{Text, a_function}
use Rattle.ess_semantics.specs.Names.{Names}
use Rattle.ess_semantics.specs.Trees.{word, function_literal, partition_literal, set_literal, mset_literal, relation_literal, matrix_literal, name_pat, Ex, Exs, number_ex, name_ex, node_ex, matrix_ex, comp_ex, ex1, ex2, fun1, no_exs, more_exs, Gens, no_gens, over, from, cond}
use Rattle.ess_semantics.specs.Types.{Ty, compound2}
use Rattle.ess_semantics.specs.Typing.{type_of}
use Rattle.ess_semantics.specs.ExpressionJudgements.{forgets_order}
use Rattle.ess_semantics.specs.Occurrences.{has_cells}
use Rattle.ess_rules_laws.specs.Listings.{Alternative, each_item, none_of, each_first, is_strict, listing}
use Rattle.ess_rules_laws.specs.InclusionRules.{both_sets}
use Rattle.ess_rules_laws.specs.ShortSizeRules.{is_partition}
use Rattle.ess_rules_laws.specs.ContainerListings.{of_function, made_listing}
use Rattle.ess_rules_laws.proofs.NoneOf.{none_of-more}
use Rattle.ess_refine_laws.specs.AllRules.{Supply, offered}
use Rattle.ess_refine_laws.specs.LeavingConditions.{Parted, with_before, at_last_condition}
use Rattle.ess_refine_laws.specs.Everywhere.{divisor, base, exponent, raised, extreme, is_nonzero, is_positive, everywhere, everywhere_list, everywhere_exs, everywhere_gens}
use Rattle.ess_refine_laws.specs.ItemsOnce.{is_atom_dom, items_once}
use Rattle.ess_given_order_laws.specs.InOrder.{Ordered, AllOrdered, GensOrdered, InOrder}
use Rattle.ess_given_order_laws.proofs.OrderedParts.{PutsOrder, put-kept, put-gens-order}

module _ (u : Text → Bool) where
  -- A name.
  pub nm : (x : Text) → InOrder u (name_ex x)
  nm x = (refl, tt)

  -- A word that forgets order, on a term.
  pub of-word : (c : Bool) (e : Ex) → AllOrdered u (more_exs e no_exs) c → Ordered u e
  of-word true e h = h.0
  of-word false e h = h.0.1

  pub worded : (b : Bool) (f : Fun) (e : Ex) → forgets_order (word f) ≡ true → Ordered u e → InOrder u (fun1 b f e)
  worded b f e q h = (refl, subst (AllOrdered u (more_exs e no_exs)) (sym q) (h, tt))

  -- Each alternative has it.
  abbrev pub AllAlternatives : List Alternative → Type 0
  AllAlternatives [] = Unit {0}
  AllAlternatives (a ∷ l) = (InOrder u a.item × GensOrdered u a.gens) × AllAlternatives l

  abbrev pub SomeAlternatives : Option (List Alternative) → Type 0
  SomeAlternatives None = Unit {0}
  SomeAlternatives (Some l) = AllAlternatives l

  when-list : (c : Bool) (l : List Alternative) → AllAlternatives l → SomeAlternatives (if c then Some l else None)
  when-list true l h = h
  when-list false l h = tt

  -- ---- listings

  items-have : (es : Exs) → AllOrdered u es false → AllAlternatives (each_item es)
  items-have no_exs h = tt
  items-have (more_exs a es) h = ((h.0, tt), items-have es h.1)

  abbrev ListHas : List Ex → Type 0
  ListHas [] = Unit {0}
  ListHas (b ∷ bs) = InOrder u b × ListHas bs

  none-has : (bs : List Ex) (a : Ex) → ListHas bs → InOrder u a → GensOrdered u (none_of bs a)
  none-has [] a h k = tt
  none-has (b ∷ bs) a h k =
      none_of-more (GensOrdered u) b a bs (none-has bs a h.1 k) (λ r. ((refl, ((refl, (h.0, (k, tt))), tt)), r))

  firsts-have : (bs : List Ex) (es : Exs) → ListHas bs → AllOrdered u es false → AllAlternatives (each_first bs es)
  firsts-have bs no_exs h k = tt
  firsts-have bs (more_exs a es) h k = ((k.0, none-has bs a h k.0), firsts-have (a ∷ bs) es (k.0, h) k.1)

  module _ (x : Text) where
    listing-has : (g : Names Ty) (t : Ex) → Ordered u t → SomeAlternatives (listing g x t)
    listing-has g (comp_ex e gs) h = (h, tt)
    listing-has g (node_ex false matrix_literal es) h = items-have es h
    listing-has g (node_ex false mset_literal es) h = items-have es h
    listing-has g (node_ex false set_literal es) h = firsts-have [] es tt h
    listing-has g (node_ex false relation_literal es) h = firsts-have [] es tt h
    listing-has g (ex2 false Op2.Union a b) h = when-list (both_sets (type_of a g) (type_of b g)) _
        ((nm x, (h.0.1, tt)), ((nm x, (h.1.0.1, ((refl, ((refl, (nm x, (h.0, tt))), tt)), tt))), tt))
    listing-has g (ex2 false Op2.Intersect a b) h = when-list (both_sets (type_of a g) (type_of b g)) _
        ((nm x, (h.0.1, ((refl, (nm x, (h.1.0, tt))), tt))), tt)
    listing-has g (ex2 false Op2.Minus a b) h = when-list (both_sets (type_of a g) (type_of b g)) _
        ((nm x, (h.0.1, ((refl, ((refl, (nm x, (h.1.0, tt))), tt)), tt))), tt)
    listing-has g (fun1 false Fun.ToMSet s) h = ((nm x, (h.0, tt)), tt)
    listing-has g (fun1 false Fun.ToSet s) h = when-list (is_strict (type_of s g)) _ ((nm x, (h.0, tt)), tt)
    listing-has g (fun1 false Fun.Parts s) h = when-list (is_strict (type_of s g)) _ ((nm x, (h.0.1, tt)), tt)
    listing-has g _ h = tt

    function-has : (o : Option Ty) (F : Ty → Ty → List Alternative) → ((t v : Ty) → AllAlternatives (F t v)) →
        SomeAlternatives (of_function o F)
    function-has (Some (compound2 a_function t v)) F h = h t v
    function-has _ F h = tt

    made-has : (g : Names Ty) (y : Text) (t : Ex) → Ordered u t → SomeAlternatives (made_listing g x y t)
    made-has g y (fun1 false Fun.ToRelation f) h = function-has (type_of f g) _ (λ t v. ((nm x, (h.0.1, tt)), tt))
    made-has g y (fun1 false Fun.Defined f) h = function-has (type_of f g) _ (λ t v. (((refl, (nm x, tt)), (h.0.1, tt)), tt))
    made-has g y (node_ex false (word Fun.PreImage) (more_exs f (more_exs b no_exs))) h = function-has (type_of f g) _
        (λ t v. (((refl, (nm x, tt)), (h.0.1, ((refl, ((refl, (nm x, tt)), (h.1.0, tt))), tt))), tt))
    made-has g y (fun1 false Fun.Participants p) h = when-list (is_partition (type_of p g)) _ ((nm x, (h.0.1, (tt, tt))), tt)
    made-has g y (node_ex false function_literal es) h = firsts-have [] es tt h
    made-has g y (node_ex false partition_literal es) h = items-have es h
    made-has g y (fun1 false Fun.ToSet (node_ex false matrix_literal es)) h = firsts-have [] es tt h.0
    made-has g y (fun1 false Fun.ToSet (node_ex false mset_literal es)) h = firsts-have [] es tt h.0
    made-has g y (matrix_ex es d) h = items-have es h
    made-has g y _ h = tt

    once-has : (z v : Text) → ((a : Text) → PutsOrder u a (name_ex v)) → (t : Ex) → Ordered u t → SomeAlternatives (items_once x z v t)
    once-has z v puts (fun1 false Fun.ToSet (comp_ex e no_gens)) h = ((h.0.0, tt), tt)
    once-has z v puts (fun1 false Fun.ToSet (comp_ex e (cond c gs))) h =
        ((nm x, (h.0.1.0, (((h.0.0, h.0.1.1), tt), tt))), tt)
    once-has z v puts (fun1 false Fun.ToSet (comp_ex e (over (name_pat a) d gs))) h =
        when-list (is_atom_dom d) _ (
          (
            nm x,
            (
              ((put-kept u a (name_ex v) (puts a) e h.0.0, put-gens-order u a (name_ex v) (puts a) gs h.0.1), tt),
              (
                (
                  refl,
                  (
                    ((refl, ((refl, (nm z, (nm x, tt))), tt)), ((h.0.0, ((refl, (nm a, (nm v, tt))), h.0.1)), tt)),
                    tt,
                  ),
                ),
                tt,
              ),
            ),
          ),
          tt,
        )
    once-has z v puts _ h = tt

  -- What a term offers.
  pub offered-order : (s : Supply) → ((a : Text) → PutsOrder u a (name_ex s.third)) → (g : Names Ty) (t : Ex) → Ordered u t →
      SomeAlternatives (offered s g t)
  offered-order s puts g t h =
      either (listing g s.one t) (or_else (made_listing g s.one s.other t) (items_once s.one s.other s.third t))
      (listing-has s.one g t h) (either (made_listing g s.one s.other t) (items_once s.one s.other s.third t)
      (made-has s.one g s.other t h) (once-has s.one s.other s.third puts t h))
    where
      either : (o p : Option (List Alternative)) → SomeAlternatives o → SomeAlternatives p → SomeAlternatives (or_else o p)
      either None p h k = k
      either (Some l) p h k = h

  -- ---- generators taken apart

  abbrev pub PartedOrder : Option Parted → Type 0
  PartedOrder None = Unit {0}
  PartedOrder (Some t) = GensOrdered u t.before × InOrder u t.condition × GensOrdered u t.after

  parted-behind : (f : Gens → Gens) → ((gs : Gens) → GensOrdered u gs → GensOrdered u (f gs)) → (o : Option Parted) → PartedOrder o →
      PartedOrder (option_map (with_before f) o)
  parted-behind f k None h = tt
  parted-behind f k (Some t) h = (k t.before h.0, h.1, h.2)

  pub parted-order : (gs : Gens) → GensOrdered u gs → PartedOrder (at_last_condition gs)
  parted-order no_gens h = tt
  parted-order (over p d gs) h = parted-behind (over p d) (λ ks k. k) (at_last_condition gs) (parted-order gs h)
  parted-order (from p e gs) h = parted-behind (from p e) (λ ks k. (h.0, k)) (at_last_condition gs) (parted-order gs h.1)
  parted-order (cond c gs) h = go (at_last_condition gs) (parted-order gs h.1)
    where
      here : (b : Bool) → PartedOrder (if b then Some (record { before = no_gens; condition = c; after = gs }) else None)
      here true = (tt, h.0, h.1)
      here false = tt

      go : (o : Option Parted) → PartedOrder o → PartedOrder (elim o [
        | Some t ↦ Some (with_before (cond c) t)
        | None ↦ if has_cells c then Some (record { before = no_gens; condition = c; after = gs }) else None
      ])
      go (Some t) k = ((h.0, k.0), k.1, k.2)
      go None k = here (has_cells c)

  -- ---- numbers that are there everywhere

  divisor-kept : (b : Ex) → InOrder u b → InOrder u (divisor b)
  divisor-kept b h = go (is_nonzero b)
    where
      go : (c : Bool) → InOrder u (if c then b else ex2 false Op2.Plus b (fun1 false Fun.ToInt (ex2 true Op2.Eq b (number_ex (pos 0)))))
      go true = h
      go false = (refl, (h, ((refl, ((refl, (h, ((refl, tt), tt))), tt)), tt)))

  raised-kept : (a b : Ex) → InOrder u a → InOrder u b → InOrder u (raised a b)
  raised-kept a b h k = go (is_positive b)
    where
      base-kept : (c : Bool) → InOrder u (if c then a else ex2 false Op2.Plus a (fun1 false Fun.ToInt
          (ex2 true Op2.And (ex2 true Op2.Eq a (number_ex (pos 0))) (ex2 true Op2.Le b (number_ex (pos 0))))))
      base-kept true = h
      base-kept false =
          (refl, (h, ((refl, ((refl, ((refl, (h, ((refl, tt), tt))), ((refl, (k, ((refl, tt), tt))), tt))), tt)), tt)))

      go : (c : Bool) → InOrder u (if c then ex2 false Op2.Pow a b else ex2 false Op2.Pow (base a b) (exponent b))
      go true = (refl, (h, (k, tt)))
      go false = (refl, (base-kept (is_nonzero a), ((refl, ((k, ((refl, tt), tt)), tt)), tt)))

  pub extreme-kept : (f : Fun) (l : Ex) → forgets_order (word f) ≡ true → Ordered u l → InOrder u (extreme f l)
  extreme-kept f (comp_ex e gs) q h =
      (refl, ((worded false f (comp_ex e gs) q h, ((refl, (((refl, tt), h.1), tt)), tt)), tt))
  extreme-kept f (node_ex false matrix_literal no_exs) q h = (refl, tt)
  extreme-kept f l q h = worded false f l q h

  mutual
    -- The number of an expression; of one that stands where order counts it stands there too.
    pub every-kept : (e : Ex) → InOrder u e → InOrder u (everywhere e)
    every-kept (ex1 false Op1.Minus a) h = (refl, (every-kept a h.1.0, tt))
    every-kept (ex1 false Op1.Bar a) h = (refl, (every-kept a h.1.0, tt))
    every-kept (ex2 false Op2.Plus a b) h = (refl, (every-kept a h.1.0, (every-kept b h.1.1.0, tt)))
    every-kept (ex2 false Op2.Minus a b) h = (refl, (every-kept a h.1.0, (every-kept b h.1.1.0, tt)))
    every-kept (ex2 false Op2.Times a b) h = (refl, (every-kept a h.1.0, (every-kept b h.1.1.0, tt)))
    every-kept (ex2 false Op2.Div a b) h = (refl, (every-kept a h.1.0, (divisor-kept (everywhere b) (every-kept b h.1.1.0), tt)))
    every-kept (ex2 false Op2.Mod a b) h = (refl, (every-kept a h.1.0, (divisor-kept (everywhere b) (every-kept b h.1.1.0), tt)))
    every-kept (ex2 false Op2.Pow a b) h = raised-kept (everywhere a) (everywhere b) (every-kept a h.1.0) (every-kept b h.1.1.0)
    every-kept (fun1 false Fun.Sum l) h = (refl, (list-kept l h.1.0, tt))
    every-kept (fun1 false Fun.Product l) h = (refl, (list-kept l h.1.0, tt))
    every-kept (fun1 false Fun.Min l) h = extreme-kept Fun.Min (everywhere_list l) refl (list-kept l h.1.0)
    every-kept (fun1 false Fun.Max l) h = extreme-kept Fun.Max (everywhere_list l) refl (list-kept l h.1.0)
    every-kept _ h = h

    list-kept : (l : Ex) → Ordered u l → Ordered u (everywhere_list l)
    list-kept (comp_ex e gs) h = (every-kept e h.0, every-gens gs h.1)
    list-kept (node_ex false matrix_literal es) h = every-exs es h
    list-kept _ h = h

    every-exs : (es : Exs) → AllOrdered u es false → AllOrdered u (everywhere_exs es) false
    every-exs no_exs h = tt
    every-exs (more_exs e es) h = (every-kept e h.0, every-exs es h.1)

    pub every-gens : (gs : Gens) → GensOrdered u gs → GensOrdered u (everywhere_gens gs)
    every-gens no_gens h = tt
    every-gens (over p d gs) h = every-gens gs h
    every-gens (from p e gs) h = (h.0, every-gens gs h.1)
    every-gens (cond c gs) h = (h.0, every-gens gs h.1)
