-- New names that are bound change no types of other names: those of patterns of names, and tuples of them have the type of the domains.
use Rattle.std.proofs.Common.{◌≡◌, refl, sym, ap, ◌∙◌, Bool, true, false, List, [], ◌∷◌, Some, option_map, not}
use Rattle.std.specs.List.{list_all}
use Rattle.std.specs.Prelude.{IsTrue}
use Rattle.ess_semantics.specs.Lists.{and_then, all_some}
use Rattle.ess_semantics.specs.Names.{look, Names}
use Rattle.ess_semantics.specs.OperatorTypes.{type_of_op}
use Rattle.ess_semantics.specs.Order.{same_text}
use Rattle.ess_semantics.specs.Trees.{Exs, cell_ex, Doms, more_doms, no_doms, node_ex, tuple_literal}
use Rattle.ess_semantics.specs.Types.{Ty, type_of_dom, Tys, no_tys, more_tys, compound, int_ty, types_of_doms, any_ty, tys_of, bind_all_types}
use Rattle.ess_semantics.specs.Typing.{type_of, types_of, number_cell_ty}
use Rattle.ess_semantics.specs.Values.{Text, a_tuple}
use Rattle.ess_semantics.proofs.Tests.{and-left, and-right, or-left-no, or-right-no}
use Rattle.ess_semantics.proofs.Texts.{same_text-equal}
use Rattle.ess_refine_laws.specs.MarksStay.{HaveMarks}
use Rattle.ess_refine_types_laws.proofs.TypeNames.{Same}
use Rattle.ess_rules_laws.proofs.Agreement.{look-itself}
use Rattle.ess_rules_laws.specs.ComponentRules.{has_text}
use Rattle.ess_rules_laws.specs.FunctionViews.{name_exs, name_pats, names_fit}
use Rattle.ess_rules_types_laws.proofs.PutTypes.{look-past}
use Rattle.ess_rules_types_laws.specs.PutTypes.{AllTablesAre}

is-not : (b : Bool) → IsTrue (not b) → b ≡ false
is-not true h = cc
is-not false h = refl

not-is : (b : Bool) → b ≡ false → IsTrue (not b)
not-is true h = cc
not-is false h = refl

module _ (fresh : Text → Bool) where
  -- Names that aren't new have the same types.
  abbrev pub Kept : Names Ty → Names Ty → Type 0
  Kept g h = Same (λ a. not (fresh a)) g h

  fresh-past : (x a : Text) → fresh x ≡ true → IsTrue (not (fresh a)) → same_text x a ≡ false
  fresh-past x a h n = go (same_text x a) refl
    where
      go : (b : Bool) → same_text x a ≡ b → b ≡ false
      go false q = refl
      go true q = let i : fresh x ≡ fresh a = ap fresh (same_text-equal x a q) in
          let j : true ≡ false = sym h ∙ i ∙ is-not (fresh a) n in j

  -- Behind a new name.
  pub one-kept : (x : Text) (t : Ty) (g : Names Ty) → fresh x ≡ true → Kept g ((x, t) ∷ g)
  one-kept x t g h a n = sym (look-past x a t g (fresh-past x a h n))

  -- Behind several.
  pub all-kept : (xs : List Text) (ts : Tys) (g : Names Ty) → list_all fresh xs ≡ true → Kept g (bind_all_types (name_pats xs) ts g)
  all-kept [] ts g h a n = refl
  all-kept (x ∷ xs) no_tys g h a n =
      one-kept x any_ty g (and-left (fresh x) (list_all fresh xs) h) a n
      ∙ all-kept xs no_tys ((x, any_ty) ∷ g) (and-right (fresh x) (list_all fresh xs) h) a n
  all-kept (x ∷ xs) (more_tys t ts) g h a n =
      one-kept x t g (and-left (fresh x) (list_all fresh xs) h) a n
      ∙ all-kept xs ts ((x, t) ∷ g) (and-right (fresh x) (list_all fresh xs) h) a n

  -- Cells of ints stay ints.
  pub int-kept : (g h : Names Ty) (n : Text) (ns : List Text) (js : Exs) → Kept g h → list_all (λ a. not (fresh a)) (n ∷ ns) ≡ true →
      number_cell_ty (look g n) ≡ int_ty → type_of (cell_ex false n js) h ≡ Some int_ty
  int-kept g h n ns js k l o =
      ap Some (ap number_cell_ty (sym (k n (and-left (not (fresh n)) (list_all (λ a. not (fresh a)) ns) l))) ∙ o)

-- ---- tuples of names

-- The types of domains, as a list.
abbrev list_of_doms : Doms → List Ty
list_of_doms no_doms = []
list_of_doms (more_doms d ds) = type_of_dom d ∷ list_of_doms ds

listed-doms : (ds : Doms) → tys_of (list_of_doms ds) ≡ types_of_doms ds
listed-doms no_doms = refl
listed-doms (more_doms d ds) = ap (more_tys (type_of_dom d)) (listed-doms ds)

look-kept : (xs : List Text) (ts : Tys) (g : Names Ty) (a : Text) → has_text xs a ≡ false →
    look (bind_all_types (name_pats xs) ts g) a ≡ look g a
look-kept [] ts g a h = refl
look-kept (x ∷ xs) no_tys g a h = look-kept xs no_tys ((x, any_ty) ∷ g) a (or-right-no (same_text x a) (has_text xs a) h)
    ∙ look-past x a any_ty g (or-left-no (same_text x a) (has_text xs a) h)
look-kept (x ∷ xs) (more_tys t ts) g a h = look-kept xs ts ((x, t) ∷ g) a (or-right-no (same_text x a) (has_text xs a) h)
    ∙ look-past x a t g (or-left-no (same_text x a) (has_text xs a) h)

names-have : (xs : List Text) (ds : Doms) (g : Names Ty) → names_fit xs ds ≡ true →
    all_some (types_of (name_exs xs) (bind_all_types (name_pats xs) (types_of_doms ds) g)) ≡ Some (list_of_doms ds)
names-have [] no_doms g h = refl
names-have (x ∷ xs) (more_doms d ds) g h =
    ap (λ o. and_then o (λ z. option_map (λ zs. z ∷ zs)
    (all_some (types_of (name_exs xs) (bind_all_types (name_pats xs) (types_of_doms ds) ((x, type_of_dom d) ∷ g))))))
    (look-kept xs (types_of_doms ds) ((x, type_of_dom d) ∷ g) x (is-not (has_text xs x) (and-left (not (has_text xs x))
    (names_fit xs ds) h))
    ∙ look-itself x (type_of_dom d) g)
    ∙ ap (option_map (λ zs. type_of_dom d ∷ zs)) (names-have xs ds ((x, type_of_dom d) ∷ g) (and-right (not (has_text xs x))
    (names_fit xs ds) h))
names-have [] (more_doms d ds) g h = cc
names-have (x ∷ xs) no_doms g h = cc

-- The tuple of the names.
pub tuple-typed : (xs : List Text) (ds : Doms) (g : Names Ty) → names_fit xs ds ≡ true →
    type_of (node_ex false tuple_literal (name_exs xs)) (bind_all_types (name_pats xs) (types_of_doms ds) g)
    ≡ Some (compound a_tuple (types_of_doms ds))
tuple-typed xs ds g h =
    ap (λ o. and_then o (type_of_op tuple_literal)) (names-have xs ds g h) ∙ ap (λ z. Some (compound a_tuple z)) (listed-doms ds)

-- Names have marks.
pub names-marked : (xs : List Text) (g : Names Ty) → HaveMarks (name_exs xs) g
names-marked [] g = tt
names-marked (x ∷ xs) g = (tt, names-marked xs g)

-- And no tables.
pub names-tables : (w : Text → Bool) (xs : List Text) → AllTablesAre w (name_exs xs)
names-tables w [] = tt
names-tables w (x ∷ xs) = (tt, names-tables w xs)
