-- What rules make of parts that may spell numbers: items of literals, listings, numbers that are there everywhere, and generators
-- taken apart at a condition.
use Rattle.std.proofs.Common.{◌≡◌, refl, Bool, true, false, if◌then◌else◌, List, [], ◌∷◌, ℤ, pos, Option, Some, None, option_map}
use Rattle.ess_semantics.specs.declared.words.Op1.{Op1}
use Rattle.ess_semantics.specs.declared.words.Op2.{Op2}
use Rattle.ess_semantics.specs.declared.words.Fun.{Fun}
use Rattle.ess_semantics.specs.Lists.{or_else}
use Rattle.ess_semantics.specs.Values.{Text, a_function}
use Rattle.ess_semantics.specs.Names.{Names}
use Rattle.ess_semantics.specs.Trees.{word, function_literal, partition_literal, set_literal, mset_literal, relation_literal, matrix_literal, name_pat, Ex, Exs, number_ex, name_ex, node_ex, matrix_ex, comp_ex, ex1, ex2, fun1, no_exs, more_exs, Gens, no_gens, over, from, cond, Dom, int_dom}
use Rattle.ess_semantics.specs.Types.{Ty, compound2}
use Rattle.ess_semantics.specs.Typing.{type_of}
use Rattle.ess_semantics.specs.Constants.{drops_items}
use Rattle.ess_rules_laws.specs.Listings.{Alternative, each_item, none_of, each_first, is_strict, listing}
use Rattle.ess_rules_laws.specs.InclusionRules.{both_sets}
use Rattle.ess_rules_laws.specs.ShortSizeRules.{is_partition}
use Rattle.ess_rules_laws.specs.ContainerListings.{of_function, made_listing}
use Rattle.ess_rules_laws.proofs.NoneOf.{none_of-more}
use Rattle.ess_refine_laws.specs.AllRules.{Supply, offered}
use Rattle.ess_refine_laws.specs.LeavingConditions.{Parted, with_before, at_last_condition}
use Rattle.ess_refine_laws.specs.Everywhere.{divisor, base, exponent, raised, extreme, is_nonzero, is_positive, everywhere, everywhere_list, everywhere_exs, everywhere_gens, everywhere_dom}
use Rattle.ess_semantics.specs.Occurrences.{has_cells}
use Rattle.ess_semantics.specs.Substitution.{for_name}
use Rattle.ess_refine_laws.specs.ItemsOnce.{is_atom_dom, items_once}
use Rattle.ess_refine_laws.proofs.Spelling.{put-spells, put-gens, for-name}
use Rattle.ess_refine_laws.specs.Spelling.{Spells, SpellsEach, SpellsGens, SpellsDom}

module _ (q : ℤ → Bool) where
  -- Each alternative spells no more.
  abbrev pub SpellsAll : List Alternative → Type 0
  SpellsAll [] = Unit {0}
  SpellsAll (a ∷ l) = (Spells q false a.item × SpellsGens q a.gens) × SpellsAll l

  abbrev pub SpellsSome : Option (List Alternative) → Type 0
  SpellsSome None = Unit {0}
  SpellsSome (Some l) = SpellsAll l

  when-list : (c : Bool) (l : List Alternative) → SpellsAll l → SpellsSome (if c then Some l else None)
  when-list true l h = h
  when-list false l h = tt

  -- ---- listings

  items-spell : (es : Exs) → SpellsEach q false es → SpellsAll (each_item es)
  items-spell no_exs h = tt
  items-spell (more_exs a es) h = ((h.0, tt), items-spell es h.1)

  abbrev SpellsList : List Ex → Type 0
  SpellsList [] = Unit {0}
  SpellsList (b ∷ bs) = Spells q false b × SpellsList bs

  none-spells : (bs : List Ex) (a : Ex) → SpellsList bs → Spells q false a → SpellsGens q (none_of bs a)
  none-spells [] a h k = tt
  none-spells (b ∷ bs) a h k =
      none_of-more (SpellsGens q) b a bs (none-spells bs a h.1 k) (λ r. ((refl, ((refl, (h.0, (k, tt))), tt)), r))

  firsts-spell : (bs : List Ex) (es : Exs) → SpellsList bs → SpellsEach q false es → SpellsAll (each_first bs es)
  firsts-spell bs no_exs h k = tt
  firsts-spell bs (more_exs a es) h k = ((k.0, none-spells bs a h k.0), firsts-spell (a ∷ bs) es (k.0, h) k.1)

  listing-spells : (g : Names Ty) (x : Text) (t : Ex) → Spells q false t → SpellsSome (listing g x t)
  listing-spells g x (comp_ex e gs) h = (h, tt)
  listing-spells g x (node_ex false matrix_literal es) h = items-spell es h.1
  listing-spells g x (node_ex false mset_literal es) h = items-spell es h.1
  listing-spells g x (node_ex false set_literal es) h = firsts-spell [] es tt h.1
  listing-spells g x (node_ex false relation_literal es) h = firsts-spell [] es tt h.1
  listing-spells g x (ex2 false Op2.Union a b) h = when-list (both_sets (type_of a g) (type_of b g)) _
      ((tt, (h.1.0, tt)), ((tt, (h.1.1.0, ((refl, ((refl, (tt, (h.1.0, tt))), tt)), tt))), tt))
  listing-spells g x (ex2 false Op2.Intersect a b) h = when-list (both_sets (type_of a g) (type_of b g)) _
      ((tt, (h.1.0, ((refl, (tt, (h.1.1.0, tt))), tt))), tt)
  listing-spells g x (ex2 false Op2.Minus a b) h = when-list (both_sets (type_of a g) (type_of b g)) _
      ((tt, (h.1.0, ((refl, ((refl, (tt, (h.1.1.0, tt))), tt)), tt))), tt)
  listing-spells g x (fun1 false Fun.ToMSet s) h = ((tt, (h.1.0, tt)), tt)
  listing-spells g x (fun1 false Fun.ToSet s) h = when-list (is_strict (type_of s g)) _ ((tt, (h.1.0, tt)), tt)
  listing-spells g x (fun1 false Fun.Parts s) h = when-list (is_strict (type_of s g)) _ ((tt, (h.1.0, tt)), tt)
  listing-spells g x _ h = tt

  function-spells : (o : Option Ty) (F : Ty → Ty → List Alternative) → ((t u : Ty) → SpellsAll (F t u)) → SpellsSome (of_function o F)
  function-spells (Some (compound2 a_function t u)) F h = h t u
  function-spells _ F h = tt

  made-spells : (g : Names Ty) (x y : Text) (t : Ex) → Spells q false t → SpellsSome (made_listing g x y t)
  made-spells g x y (fun1 false Fun.ToRelation f) h = function-spells (type_of f g) _ (λ t u. ((tt, (h.1.0, tt)), tt))
  made-spells g x y (fun1 false Fun.Defined f) h = function-spells (type_of f g) _ (λ t u. (((refl, (tt, tt)), (h.1.0, tt)), tt))
  made-spells g x y (node_ex false (word Fun.PreImage) (more_exs f (more_exs b no_exs))) h = function-spells (type_of f g) _
      (λ t u. (((refl, (tt, tt)), (h.1.0, ((refl, ((refl, (tt, tt)), (h.1.1.0, tt))), tt))), tt))
  made-spells g x y (fun1 false Fun.Participants p) h = when-list (is_partition (type_of p g)) _ ((tt, (h.1.0, (tt, tt))), tt)
  made-spells g x y (node_ex false function_literal es) h = firsts-spell [] es tt h.1
  made-spells g x y (node_ex false partition_literal es) h = items-spell es h.1
  made-spells g x y (fun1 false Fun.ToSet (node_ex false matrix_literal es)) h = firsts-spell [] es tt h.1.0.1
  made-spells g x y (fun1 false Fun.ToSet (node_ex false mset_literal es)) h = firsts-spell [] es tt h.1.0.1
  made-spells g x y (matrix_ex es d) h = items-spell es h.1
  made-spells g x y _ h = tt

  once-spells : (y z w : Text) (t : Ex) → Spells q false t → SpellsSome (items_once y z w t)
  once-spells y z w (fun1 false Fun.ToSet (comp_ex e no_gens)) h = ((h.1.0.0, tt), tt)
  once-spells y z w (fun1 false Fun.ToSet (comp_ex e (cond c gs))) h =
      ((tt, (h.1.0.1.0, ((refl, ((h.1.0.0, h.1.0.1.1), tt)), tt))), tt)
  once-spells y z w (fun1 false Fun.ToSet (comp_ex e (over (name_pat x) d gs))) h =
      let named = for-name q x (name_ex w) tt in
      when-list (is_atom_dom d) _ (
        (
          tt,
          (
            h.1.0.1.0,
            (
              (refl, ((put-spells q (for_name x (name_ex w)) named e false h.1.0.0, put-gens q (for_name x (name_ex w)) named gs h.1.0.1.1), tt)),
              (
                (
                  refl,
                  (
                    (
                      (refl, ((refl, (tt, (tt, tt))), tt)),
                      ((h.1.0.0, (h.1.0.1.0, ((refl, (tt, (tt, tt))), h.1.0.1.1))), tt),
                    ),
                    tt,
                  ),
                ),
                tt,
              ),
            ),
          ),
        ),
        tt,
      )
  once-spells y z w _ h = tt

  -- What a term offers.
  pub offered-spells : (s : Supply) (g : Names Ty) (t : Ex) → Spells q false t → SpellsSome (offered s g t)
  offered-spells s g t h = either (listing g s.one t) (or_else (made_listing g s.one s.other t) (items_once s.one s.other s.third t))
      (listing-spells g s.one t h) (either (made_listing g s.one s.other t) (items_once s.one s.other s.third t)
      (made-spells g s.one s.other t h) (once-spells s.one s.other s.third t h))
    where
      either : (o p : Option (List Alternative)) → SpellsSome o → SpellsSome p → SpellsSome (or_else o p)
      either None p h k = k
      either (Some l) p h k = h

  -- ---- generators taken apart

  abbrev pub SpellsParted : Option Parted → Type 0
  SpellsParted None = Unit {0}
  SpellsParted (Some t) = SpellsGens q t.before × Spells q false t.condition × SpellsGens q t.after

  parted-behind : (f : Gens → Gens) → ((gs : Gens) → SpellsGens q gs → SpellsGens q (f gs)) → (o : Option Parted) → SpellsParted o →
      SpellsParted (option_map (with_before f) o)
  parted-behind f k None h = tt
  parted-behind f k (Some t) h = (k t.before h.0, h.1, h.2)

  pub parted-spells : (gs : Gens) → SpellsGens q gs → SpellsParted (at_last_condition gs)
  parted-spells no_gens h = tt
  parted-spells (over p d gs) h = parted-behind (over p d) (λ ks k. (h.0, k)) (at_last_condition gs) (parted-spells gs h.1)
  parted-spells (from p e gs) h = parted-behind (from p e) (λ ks k. (h.0, k)) (at_last_condition gs) (parted-spells gs h.1)
  parted-spells (cond c gs) h = go (at_last_condition gs) (parted-spells gs h.1)
    where
      here : (b : Bool) → SpellsParted (if b then Some (record { before = no_gens; condition = c; after = gs }) else None)
      here true = (tt, h.0, h.1)
      here false = tt

      go : (o : Option Parted) → SpellsParted o → SpellsParted (elim o [
        | Some t ↦ Some (with_before (cond c) t)
        | None ↦ if has_cells c then Some (record { before = no_gens; condition = c; after = gs }) else None
      ])
      go (Some t) k = ((h.0, k.0), k.1, k.2)
      go None k = here (has_cells c)

  -- ---- numbers that are there everywhere

  module _ (o : q (pos 0) ≡ true) where
    divisor-spells : (b : Ex) → Spells q false b → Spells q false (divisor b)
    divisor-spells b h = go (is_nonzero b)
      where
        go : (c : Bool) → Spells q false (if c then b else ex2 false Op2.Plus b (fun1 false Fun.ToInt (ex2 true Op2.Eq b (number_ex
            (pos 0)))))
        go true = h
        go false = (refl, (h, ((refl, ((refl, (h, (o, tt))), tt)), tt)))

    raised-spells : (a b : Ex) → Spells q false a → Spells q false b → Spells q false (raised a b)
    raised-spells a b h k = go (is_positive b)
      where
        base-spells : (c : Bool) → Spells q false (if c then a else ex2 false Op2.Plus a (fun1 false Fun.ToInt
            (ex2 true Op2.And (ex2 true Op2.Eq a (number_ex (pos 0))) (ex2 true Op2.Le b (number_ex (pos 0))))))
        base-spells true = h
        base-spells false =
            (refl, (h, ((refl, ((refl, ((refl, (h, (o, tt))), ((refl, (k, (o, tt))), tt))), tt)), tt)))

        go : (c : Bool) → Spells q false (if c then ex2 false Op2.Pow a b else ex2 false Op2.Pow (base a b) (exponent b))
        go true = (refl, (h, (k, tt)))
        go false = (refl, (base-spells (is_nonzero a), ((refl, ((refl, (k, (o, tt))), tt)), tt)))

    pub extreme-spells : (b : Bool) (f : Fun) (l : Ex) → Spells q (drops_items (word f)) l → Spells q b (extreme f l)
    extreme-spells b f (comp_ex e gs) h = (refl, (((refl, (h, tt)), ((refl, ((tt, h.1), tt)), tt)), tt))
    extreme-spells b f (node_ex false matrix_literal no_exs) h = o
    extreme-spells b f _ h = (refl, (h, tt))

    mutual
      pub everywhere-spells : (e : Ex) → Spells q false e → Spells q false (everywhere e)
      everywhere-spells (ex1 false Op1.Minus a) h = (refl, (everywhere-spells a h.1.0, tt))
      everywhere-spells (ex1 false Op1.Bar a) h = (refl, (everywhere-spells a h.1.0, tt))
      everywhere-spells (ex2 false Op2.Plus a b) h = (refl, (everywhere-spells a h.1.0, (everywhere-spells b h.1.1.0, tt)))
      everywhere-spells (ex2 false Op2.Minus a b) h = (refl, (everywhere-spells a h.1.0, (everywhere-spells b h.1.1.0, tt)))
      everywhere-spells (ex2 false Op2.Times a b) h = (refl, (everywhere-spells a h.1.0, (everywhere-spells b h.1.1.0, tt)))
      everywhere-spells (ex2 false Op2.Div a b) h =
          (refl, (everywhere-spells a h.1.0, (divisor-spells (everywhere b) (everywhere-spells b h.1.1.0), tt)))
      everywhere-spells (ex2 false Op2.Mod a b) h =
          (refl, (everywhere-spells a h.1.0, (divisor-spells (everywhere b) (everywhere-spells b h.1.1.0), tt)))
      everywhere-spells (ex2 false Op2.Pow a b) h =
          raised-spells (everywhere a) (everywhere b) (everywhere-spells a h.1.0) (everywhere-spells b h.1.1.0)
      everywhere-spells (fun1 false Fun.Sum l) h = (refl, (list-spells l h.1.0, tt))
      everywhere-spells (fun1 false Fun.Product l) h = (refl, (list-spells l h.1.0, tt))
      everywhere-spells (fun1 false Fun.Min l) h = extreme-spells false Fun.Min (everywhere_list l) (list-spells l h.1.0)
      everywhere-spells (fun1 false Fun.Max l) h = extreme-spells false Fun.Max (everywhere_list l) (list-spells l h.1.0)
      everywhere-spells _ h = h

      list-spells : (l : Ex) → Spells q true l → Spells q true (everywhere_list l)
      list-spells (comp_ex e gs) h = (everywhere-spells e h.0, gens-everywhere gs h.1)
      list-spells (node_ex false matrix_literal es) h = (refl, exs-everywhere es h.1)
      list-spells _ h = h

      exs-everywhere : (es : Exs) → SpellsEach q false es → SpellsEach q false (everywhere_exs es)
      exs-everywhere no_exs h = tt
      exs-everywhere (more_exs e es) h = (everywhere-spells e h.0, exs-everywhere es h.1)

      pub gens-everywhere : (gs : Gens) → SpellsGens q gs → SpellsGens q (everywhere_gens gs)
      gens-everywhere no_gens h = tt
      gens-everywhere (over p d gs) h = (dom-everywhere d h.0, gens-everywhere gs h.1)
      gens-everywhere (from p e gs) h = (h.0, gens-everywhere gs h.1)
      gens-everywhere (cond c gs) h = (h.0, gens-everywhere gs h.1)

      pub dom-everywhere : (d : Dom) → SpellsDom q d → SpellsDom q (everywhere_dom d)
      dom-everywhere (int_dom rs es) h = exs-everywhere es h
      dom-everywhere _ h = h
