-- Listings, numbers that are there everywhere, and generators taken apart have the names of what they are made of.
use Rattle.std.proofs.Common.{Bool, true, false, if◌then◌else◌, List, [], ◌∷◌, pos, Option, Some, None, option_map}
use Rattle.std.specs.Prelude.{IsTrue}
use Rattle.ess_semantics.specs.declared.words.Op1.{Op1}
use Rattle.ess_semantics.specs.declared.words.Op2.{Op2}
use Rattle.ess_semantics.specs.declared.words.Fun.{Fun}
use Rattle.ess_semantics.specs.Lists.{or_else}
use Rattle.ess_semantics.specs.Values.{Text, a_function}
use Rattle.ess_semantics.specs.Names.{Names}
use Rattle.ess_semantics.specs.Trees.{word, function_literal, partition_literal, set_literal, mset_literal, relation_literal, matrix_literal, name_pat, Ex, Exs, number_ex, name_ex, node_ex, matrix_ex, comp_ex, ex1, ex2, fun1, no_exs, more_exs, Gens, no_gens, over, from, cond, Dom, int_dom}
use Rattle.ess_semantics.specs.Types.{Ty, compound2}
use Rattle.ess_semantics.specs.Typing.{type_of}
use Rattle.ess_semantics.specs.Occurrences.{has_cells}
use Rattle.ess_semantics.specs.Substitution.{for_name}
use Rattle.ess_rules_laws.specs.Listings.{Alternative, each_item, none_of, each_first, is_strict, listing}
use Rattle.ess_rules_laws.specs.InclusionRules.{both_sets}
use Rattle.ess_rules_laws.specs.ShortSizeRules.{is_partition}
use Rattle.ess_rules_laws.specs.ContainerListings.{of_function, made_listing}
use Rattle.ess_rules_laws.proofs.NoneOf.{none_of-more}
use Rattle.ess_refine_laws.specs.AllRules.{Supply, offered}
use Rattle.ess_refine_laws.specs.LeavingConditions.{Parted, with_before, at_last_condition}
use Rattle.ess_refine_laws.specs.Everywhere.{divisor, base, exponent, raised, extreme, is_nonzero, is_positive, everywhere, everywhere_list, everywhere_exs, everywhere_gens, everywhere_dom}
use Rattle.ess_refine_laws.specs.ItemsOnce.{is_atom_dom, items_once}
use Rattle.ess_chain_names_laws.specs.NamesHave.{NamesHave, AllNamesHave, GensNamesHave, DomNamesHave}
use Rattle.ess_chain_names_laws.proofs.NamesHave.{put-names, put-gens, for-name}
use Rattle.ess_chain_names_laws.proofs.NamesOfFolds.{HaveAll, HaveSome}

module _ (u : Text → Bool) where
  abbrev All : List Alternative → Type 0
  All l = HaveAll u l

  abbrev Some-have : Option (List Alternative) → Type 0
  Some-have o = HaveSome u o

  when-list : (c : Bool) (l : List Alternative) → All l → Some-have (if c then Some l else None)
  when-list true l h = h
  when-list false l h = tt

  -- ---- listings

  items-have : (es : Exs) → AllNamesHave u es → All (each_item es)
  items-have no_exs h = tt
  items-have (more_exs a es) h = ((h.0, tt), items-have es h.1)

  abbrev ListHas : List Ex → Type 0
  ListHas [] = Unit {0}
  ListHas (b ∷ bs) = NamesHave u b × ListHas bs

  none-has : (bs : List Ex) (a : Ex) → ListHas bs → NamesHave u a → GensNamesHave u (none_of bs a)
  none-has [] a h k = tt
  none-has (b ∷ bs) a h k = none_of-more (GensNamesHave u) b a bs (none-has bs a h.1 k) (λ r. (((h.0, (k, tt)), tt), r))

  firsts-have : (bs : List Ex) (es : Exs) → ListHas bs → AllNamesHave u es → All (each_first bs es)
  firsts-have bs no_exs h k = tt
  firsts-have bs (more_exs a es) h k = ((k.0, none-has bs a h k.0), firsts-have (a ∷ bs) es (k.0, h) k.1)

  module _ (x : Text) (n : IsTrue (u x)) where
    listing-names : (g : Names Ty) (t : Ex) → NamesHave u t → Some-have (listing g x t)
    listing-names g (comp_ex e gs) h = (h, tt)
    listing-names g (node_ex false matrix_literal es) h = items-have es h
    listing-names g (node_ex false mset_literal es) h = items-have es h
    listing-names g (node_ex false set_literal es) h = firsts-have [] es tt h
    listing-names g (node_ex false relation_literal es) h = firsts-have [] es tt h
    listing-names g (ex2 false Op2.Union a b) h = when-list (both_sets (type_of a g) (type_of b g)) _
        ((n, (n, h.0, tt)), ((n, (n, h.1.0, (((n, (h.0, tt)), tt), tt))), tt))
    listing-names g (ex2 false Op2.Intersect a b) h = when-list (both_sets (type_of a g) (type_of b g)) _
        ((n, (n, h.0, ((n, (h.1.0, tt)), tt))), tt)
    listing-names g (ex2 false Op2.Minus a b) h = when-list (both_sets (type_of a g) (type_of b g)) _
        ((n, (n, h.0, (((n, (h.1.0, tt)), tt), tt))), tt)
    listing-names g (fun1 false Fun.ToMSet s) h = ((n, (n, h.0, tt)), tt)
    listing-names g (fun1 false Fun.ToSet s) h = when-list (is_strict (type_of s g)) _ ((n, (n, h.0, tt)), tt)
    listing-names g (fun1 false Fun.Parts s) h = when-list (is_strict (type_of s g)) _ ((n, (n, h.0, tt)), tt)
    listing-names g _ h = tt

    function-names : (o : Option Ty) (F : Ty → Ty → List Alternative) → ((t v : Ty) → All (F t v)) → Some-have (of_function o F)
    function-names (Some (compound2 a_function t v)) F h = h t v
    function-names _ F h = tt

    made-names : (g : Names Ty) (y : Text) → IsTrue (u y) → (t : Ex) → NamesHave u t → Some-have (made_listing g x y t)
    made-names g y m (fun1 false Fun.ToRelation f) h = function-names (type_of f g) _ (λ t v. ((n, (n, h.0, tt)), tt))
    made-names g y m (fun1 false Fun.Defined f) h = function-names (type_of f g) _ (λ t v. (((n, tt), (n, h.0, tt)), tt))
    made-names g y m (node_ex false (word Fun.PreImage) (more_exs f (more_exs b no_exs))) h = function-names (type_of f g) _
        (λ t v. (((n, tt), (n, h.0, (((n, tt), (h.1.0, tt)), tt))), tt))
    made-names g y m (fun1 false Fun.Participants p) h = when-list (is_partition (type_of p g)) _ ((n, (m, h.0, (n, m, tt))), tt)
    made-names g y m (node_ex false function_literal es) h = firsts-have [] es tt h
    made-names g y m (node_ex false partition_literal es) h = items-have es h
    made-names g y m (fun1 false Fun.ToSet (node_ex false matrix_literal es)) h = firsts-have [] es tt h.0
    made-names g y m (fun1 false Fun.ToSet (node_ex false mset_literal es)) h = firsts-have [] es tt h.0
    made-names g y m (matrix_ex es d) h = items-have es h.0
    made-names g y m _ h = tt

    once-names : (z w : Text) → IsTrue (u z) → IsTrue (u w) → (t : Ex) → NamesHave u t → Some-have (items_once x z w t)
    once-names z w k m (fun1 false Fun.ToSet (comp_ex e no_gens)) h = ((h.0.0, tt), tt)
    once-names z w k m (fun1 false Fun.ToSet (comp_ex e (cond c gs))) h = ((n, (h.0.1.0, (n, ((h.0.0, h.0.1.1), tt), tt))), tt)
    once-names z w k m (fun1 false Fun.ToSet (comp_ex e (over (name_pat v) d gs))) h =
        let named = for-name u v (name_ex w) m in
        when-list (is_atom_dom d) _ (
          (
            n,
            (
              m,
              h.0.1.1,
              (
                n,
                ((put-names u (for_name v (name_ex w)) named e h.0.0, put-gens u (for_name v (name_ex w)) named gs h.0.1.2), tt),
                (
                  (
                    (
                      (((k, (n, tt)), tt)),
                      (k, (h.0.0, (h.0.1.0, h.0.1.1, ((h.0.1.0, (m, tt)), h.0.1.2))), tt),
                    ),
                    tt,
                  ),
                  tt,
                ),
              ),
            ),
          ),
          tt,
        )
    once-names z w k m _ h = tt

  -- What a term offers.
  pub offered-names : (s : Supply) → IsTrue (u s.one) → IsTrue (u s.other) → IsTrue (u s.third) → (g : Names Ty) (t : Ex) →
      NamesHave u t → Some-have (offered s g t)
  offered-names s n m k g t h =
      either (listing g s.one t) (or_else (made_listing g s.one s.other t) (items_once s.one s.other s.third t))
      (listing-names s.one n g t h) (either (made_listing g s.one s.other t) (items_once s.one s.other s.third t)
      (made-names s.one n g s.other m t h) (once-names s.one n s.other s.third m k t h))
    where
      either : (o p : Option (List Alternative)) → Some-have o → Some-have p → Some-have (or_else o p)
      either None p h k = k
      either (Some l) p h k = h

  -- ---- generators taken apart

  abbrev pub PartedHas : Option Parted → Type 0
  PartedHas None = Unit {0}
  PartedHas (Some t) = GensNamesHave u t.before × NamesHave u t.condition × GensNamesHave u t.after

  parted-behind : (f : Gens → Gens) → ((gs : Gens) → GensNamesHave u gs → GensNamesHave u (f gs)) → (o : Option Parted) → PartedHas o →
      PartedHas (option_map (with_before f) o)
  parted-behind f k None h = tt
  parted-behind f k (Some t) h = (k t.before h.0, h.1, h.2)

  pub parted-names : (gs : Gens) → GensNamesHave u gs → PartedHas (at_last_condition gs)
  parted-names no_gens h = tt
  parted-names (over p d gs) h = parted-behind (over p d) (λ ks k. (h.0, h.1, k)) (at_last_condition gs) (parted-names gs h.2)
  parted-names (from p e gs) h = parted-behind (from p e) (λ ks k. (h.0, h.1, k)) (at_last_condition gs) (parted-names gs h.2)
  parted-names (cond c gs) h = go (at_last_condition gs) (parted-names gs h.1)
    where
      here : (b : Bool) → PartedHas (if b then Some (record { before = no_gens; condition = c; after = gs }) else None)
      here true = (tt, h.0, h.1)
      here false = tt

      go : (o : Option Parted) → PartedHas o → PartedHas (elim o [
        | Some t ↦ Some (with_before (cond c) t)
        | None ↦ if has_cells c then Some (record { before = no_gens; condition = c; after = gs }) else None
      ])
      go (Some t) k = ((h.0, k.0), k.1, k.2)
      go None k = here (has_cells c)

  -- ---- numbers that are there everywhere

  divisor-names : (b : Ex) → NamesHave u b → NamesHave u (divisor b)
  divisor-names b h = go (is_nonzero b)
    where
      go : (c : Bool) → NamesHave u (if c then b else ex2 false Op2.Plus b (fun1 false Fun.ToInt (ex2 true Op2.Eq b (number_ex (pos 0)))))
      go true = h
      go false = (h, (((h, (tt, tt)), tt), tt))

  raised-names : (a b : Ex) → NamesHave u a → NamesHave u b → NamesHave u (raised a b)
  raised-names a b h k = go (is_positive b)
    where
      base-names : (c : Bool) → NamesHave u (if c then a else ex2 false Op2.Plus a (fun1 false Fun.ToInt
          (ex2 true Op2.And (ex2 true Op2.Eq a (number_ex (pos 0))) (ex2 true Op2.Le b (number_ex (pos 0))))))
      base-names true = h
      base-names false = (h, ((((h, (tt, tt)), ((k, (tt, tt)), tt)), tt), tt))

      go : (c : Bool) → NamesHave u (if c then ex2 false Op2.Pow a b else ex2 false Op2.Pow (base a b) (exponent b))
      go true = (h, (k, tt))
      go false = (base-names (is_nonzero a), (((k, (tt, tt)), tt), tt))

  pub extreme-names : (f : Fun) (l : Ex) → NamesHave u l → NamesHave u (extreme f l)
  extreme-names f (comp_ex e gs) h = (((h, tt), (((tt, h.1), tt), tt)), tt)
  extreme-names f (node_ex false matrix_literal no_exs) h = tt
  extreme-names f _ h = (h, tt)

  mutual
    pub everywhere-names : (e : Ex) → NamesHave u e → NamesHave u (everywhere e)
    everywhere-names (ex1 false Op1.Minus a) h = (everywhere-names a h.0, tt)
    everywhere-names (ex1 false Op1.Bar a) h = (everywhere-names a h.0, tt)
    everywhere-names (ex2 false Op2.Plus a b) h = (everywhere-names a h.0, (everywhere-names b h.1.0, tt))
    everywhere-names (ex2 false Op2.Minus a b) h = (everywhere-names a h.0, (everywhere-names b h.1.0, tt))
    everywhere-names (ex2 false Op2.Times a b) h = (everywhere-names a h.0, (everywhere-names b h.1.0, tt))
    everywhere-names (ex2 false Op2.Div a b) h =
        (everywhere-names a h.0, (divisor-names (everywhere b) (everywhere-names b h.1.0), tt))
    everywhere-names (ex2 false Op2.Mod a b) h =
        (everywhere-names a h.0, (divisor-names (everywhere b) (everywhere-names b h.1.0), tt))
    everywhere-names (ex2 false Op2.Pow a b) h =
        raised-names (everywhere a) (everywhere b) (everywhere-names a h.0) (everywhere-names b h.1.0)
    everywhere-names (fun1 false Fun.Sum l) h = (list-names l h.0, tt)
    everywhere-names (fun1 false Fun.Product l) h = (list-names l h.0, tt)
    everywhere-names (fun1 false Fun.Min l) h = extreme-names Fun.Min (everywhere_list l) (list-names l h.0)
    everywhere-names (fun1 false Fun.Max l) h = extreme-names Fun.Max (everywhere_list l) (list-names l h.0)
    everywhere-names _ h = h

    list-names : (l : Ex) → NamesHave u l → NamesHave u (everywhere_list l)
    list-names (comp_ex e gs) h = (everywhere-names e h.0, gens-everywhere gs h.1)
    list-names (node_ex false matrix_literal es) h = exs-everywhere es h
    list-names _ h = h

    exs-everywhere : (es : Exs) → AllNamesHave u es → AllNamesHave u (everywhere_exs es)
    exs-everywhere no_exs h = tt
    exs-everywhere (more_exs e es) h = (everywhere-names e h.0, exs-everywhere es h.1)

    pub gens-everywhere : (gs : Gens) → GensNamesHave u gs → GensNamesHave u (everywhere_gens gs)
    gens-everywhere no_gens h = tt
    gens-everywhere (over p d gs) h = (h.0, dom-everywhere d h.1, gens-everywhere gs h.2)
    gens-everywhere (from p e gs) h = (h.0, h.1, gens-everywhere gs h.2)
    gens-everywhere (cond c gs) h = (h.0, gens-everywhere gs h.1)

    pub dom-everywhere : (d : Dom) → DomNamesHave u d → DomNamesHave u (everywhere_dom d)
    dom-everywhere (int_dom rs es) h = exs-everywhere es h
    dom-everywhere _ h = h
