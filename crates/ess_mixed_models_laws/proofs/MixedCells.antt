-- The declared tables of a specification of the class: each table of a plan is declared under its name.
use Rattle.std.proofs.Common.{◌≡◌, refl, sym, ap, ◌∙◌, subst, Bool, true, false, not, if◌then◌else◌, List, [], ◌∷◌, ◌++◌, inl, inr, map, Some}
use Rattle.ess_semantics.specs.Values.{Text}
use Rattle.ess_semantics.specs.Order.{same_text}
use Rattle.ess_semantics.specs.Names.{keys, is_among, all_distinct}
use Rattle.std.proofs.lemmas.List.{map-append}
use Rattle.ess_semantics.specs.Lists.{append_all}
use Rattle.ess_semantics.specs.Trees.{no_exs, set_dom, Stm}
use Rattle.ess_semantics.specs.Contexts.{Each}
use Rattle.ess_semantics.specs.DeclaredTables.{TableDecl, decl_name}
use Rattle.ess_semantics.specs.Plans.{Options, Side, givens_side, finds_side, same_side, Plan, value_plan, side_of, plans, plans_for, names_of_plan, names_of_plans}
use Rattle.ess_semantics.specs.ModelMeaning.{declaration_of}
use Rattle.ess_semantics.proofs.Tests.{and-left, and-right}
use Rattle.ess_semantics.proofs.Texts.{same_text-equal, same_text-itself}
use Rattle.conjure_laws.specs.Members.{In}
use Rattle.conjure_laws.specs.Premises.{is_on}
use Rattle.conjure_laws.proofs.Lists.{all-items, in-filter, in-filtered, in-left, in-right}
use Rattle.conjure_laws.proofs.NamedTables.{among-in, in-among}
use Rattle.conjure_laws.proofs.FreeNames.{all-names-differ, names-differ}
use Rattle.conjure_laws.proofs.Givens.{cross}
use Rattle.conjure_laws.proofs.SetCells.{skip-decls}
use Rattle.conjure_laws.proofs.SetPlans.{Occ}
use Rattle.ess_nested_laws.proofs.NestedForms.{nested-form}
use Rattle.ess_flat_models_laws.proofs.ScalarDomains.{Atom}
use Rattle.ess_mixed_models_laws.specs.MixedSpecifications.{kinds, is_nested_plan, are_mixed_statements}
use Rattle.ess_mixed_models_laws.specs.MixedModels.{mixed_decl, nested_decls, mixed_decls}
use Rattle.ess_mixed_models_laws.proofs.NamedKinds.{no-yes}
use Rattle.ess_mixed_models_laws.proofs.MixedPlans.{PlanFact, size_fact, atom_fact, set_fact, nested_fact, some-facts, set-single, atom-single}
use Rattle.ess_mixed_models_laws.proofs.NestedPlans.{nested-declares, nested-trees}

-- Nothing is declared behind.
pub none-behind : (ds : List TableDecl) (n : Text) → declaration_of (ds ++ []) n ≡ declaration_of ds n
none-behind [] n = refl
none-behind (d ∷ ds) n = ap (λ o. if same_text d.name n then Some d else o) (none-behind ds n)

names-are : (ds : List TableDecl) → map (λ d. d.name) ds ≡ keys (map decl_name ds)
names-are [] = refl
names-are (d ∷ ds) = ap (λ l. d.name ∷ l) (names-are ds)

-- A declaration is found by its name, where no two have one.
pub found-among : (ts es : List TableDecl) → all_distinct (keys (map decl_name ts)) ≡ true → (t : TableDecl) → In t ts →
    declaration_of (ts ++ es) t.name ≡ Some t
found-among [] es d t i = absurd i
found-among (u ∷ ts) es d t (inl e) =
    subst (λ t. (if same_text u.name t.name then Some u else declaration_of (ts ++ es) t.name) ≡ Some t) (sym e)
    (ap (λ b. if b then Some u else declaration_of (ts ++ es) u.name) (same_text-itself u.name))
found-among (u ∷ ts) es d t (inr i) =
    ap (λ b. if b then Some u else declaration_of (ts ++ es) t.name) (other (same_text u.name t.name) refl)
    ∙ found-among ts es (and-right (not (is_among ns u.name)) (all_distinct ns) d) t i
  where
    ns : List Text
    ns = keys (map decl_name ts)

    name-in : (us : List TableDecl) → In t us → In t.name (keys (map decl_name us))
    name-in [] i = absurd i
    name-in (u ∷ us) (inl e) = inl (ap (λ t. t.name) e)
    name-in (u ∷ us) (inr i) = inr (name-in us i)

    other : (b : Bool) → same_text u.name t.name ≡ b → same_text u.name t.name ≡ false
    other false q = q
    other true q =
        let z : is_among ns u.name ≡ true =
        in-among ns u.name (subst (λ y. In y ns) (sym (same_text-equal u.name t.name q)) (name-in ts i)) in
        let y : false ≡ true = ap not (sym z) ∙ and-left (not (is_among ns u.name)) (all_distinct ns) d in absurd (no-yes y)

module _ (S : List Stm) (o : Options) where
  -- ---- declared tables

  abbrev decl : Plan → TableDecl
  decl P = mixed_decl (kinds S) (plans S o) P

  abbrev decls_of : Plan → List TableDecl
  decls_of P = mixed_decls (kinds S) (plans S o) P

  -- What is no plan of nested sets has one table.
  pub single-decls : (P : Plan) → is_nested_plan (kinds S) P ≡ false → decls_of P ≡ decl P ∷ []
  single-decls P e = ap (λ b. if b then nested_decls P else (decl P ∷ [])) e

  -- The tables of a plan of nested sets.
  pub nested-decls : (P : Plan) → is_nested_plan (kinds S) P ≡ true → decls_of P ≡ nested_decls P
  nested-decls P e = ap (λ b. if b then nested_decls P else (decl P ∷ [])) e

  single-names : (P : Plan) → is_nested_plan (kinds S) P ≡ false → decl_name (decl P) ∷ [] ≡ names_of_plan P →
      map decl_name (decls_of P) ≡ names_of_plan P
  single-names P k e = ap (map decl_name) (single-decls P k) ∙ e

  -- The tables of a plan have its names.
  pub plan-names : (P : Plan) → PlanFact S o P → map decl_name (decls_of P) ≡ names_of_plan P
  plan-names P (size_fact t n e) = subst (λ P. map decl_name (decls_of P) ≡ names_of_plan P) (sym e) refl
  plan-names P (atom_fact w) = subst (λ P. map decl_name (decls_of P) ≡ names_of_plan P) (sym w.is)
      (single-names (value_plan w.f w.x Atom w.d ((w.n, 0) ∷ [])) (atom-single S o w.f w.x w.d w.n w.scalar) refl)
  plan-names P (set_fact x A n e m a) = subst (λ P. map decl_name (decls_of P) ≡ names_of_plan P) (sym e)
      (single-names (value_plan finds_side x Occ (set_dom [] no_exs A) ((n, 1) ∷ [])) (set-single S o x n m) refl)
  plan-names P (nested_fact x r d taken e n g k c) =
      ap (map decl_name) (nested-decls P k)
      ∙ subst (λ P. map decl_name (nested_decls P) ≡ names_of_plan P) (sym e)
      (ap (map decl_name) (nested-trees r d x taken (nested-form 250 d n) g)
      ∙ (nested-declares r d x taken (nested-form 250 d n) g).names)

  -- So have those of finds.
  pub decls-names : (Qs : List Plan) → Each Qs (PlanFact S o) → map decl_name (append_all (map decls_of Qs)) ≡ names_of_plans Qs
  decls-names [] h = refl
  decls-names (P ∷ Qs) h =
      map-append decl_name (decls_of P) (append_all (map decls_of Qs))
      ∙ ap (λ l. l ++ map decl_name (append_all (map decls_of Qs))) (plan-names P h.0)
      ∙ ap (λ l. names_of_plan P ++ l) (decls-names Qs h.1)

  -- Givens are no nested sets.
  pub given-single : (P : Plan) → PlanFact S o P → side_of P ≡ givens_side → is_nested_plan (kinds S) P ≡ false
  given-single P (size_fact t n e) s = ap (is_nested_plan (kinds S)) e
  given-single P (atom_fact w) s = ap (is_nested_plan (kinds S)) w.is ∙ atom-single S o w.f w.x w.d w.n w.scalar
  given-single P (set_fact x A n e m a) s = ap (is_nested_plan (kinds S)) e ∙ set-single S o x n m
  given-single P (nested_fact x r d taken e n g k c) s = let z : finds_side ≡ givens_side = ap side_of (sym e) ∙ s in cc

  given-names : (Qs : List Plan) → Each Qs (PlanFact S o) → Each Qs (λ P. side_of P ≡ givens_side) →
      map decl_name (map decl Qs) ≡ names_of_plans Qs
  given-names [] h s = refl
  given-names (P ∷ Qs) h s =
      ap (λ l. decl_name (decl P) ∷ l) (given-names Qs h.1 s.1)
      ∙ ap (λ l. l ++ names_of_plans Qs)
      (ap (map decl_name) (sym (single-decls P (given-single P h.0 s.0))) ∙ plan-names P h.0)

  in-mapped : (Qs : List Plan) (P : Plan) → In P Qs → In (decl P) (map decl Qs)
  in-mapped [] P i = absurd i
  in-mapped (Q ∷ Qs) P (inl e) = inl (ap decl e)
  in-mapped (Q ∷ Qs) P (inr i) = inr (in-mapped Qs P i)

  in-decls : (Qs : List Plan) (P : Plan) (t : TableDecl) → In P Qs → In t (decls_of P) → In t (append_all (map decls_of Qs))
  in-decls [] P t i j = absurd i
  in-decls (Q ∷ Qs) P t (inl e) j =
      in-left t (decls_of Q) (append_all (map decls_of Qs)) (subst (λ P. In t (decls_of P)) e j)
  in-decls (Q ∷ Qs) P t (inr i) j = in-right t (decls_of Q) (append_all (map decls_of Qs)) (in-decls Qs P t i j)

  module _ (h : are_mixed_statements S o ≡ true) where
    abbrev Ps : List Plan
    Ps = plans S o

    abbrev Gs : List Plan
    Gs = plans_for givens_side S o

    abbrev Fs : List Plan
    Fs = plans_for finds_side S o

    -- All declarations.
    abbrev pub decls : List TableDecl
    decls = map decl Gs ++ append_all (map decls_of Fs)

    given-sides : Each Gs (λ P. side_of P ≡ givens_side)
    given-sides = all-items (λ P. side_of P ≡ givens_side) Gs (λ P i. side-is (side_of P) (in-filter (is_on givens_side) P Ps i).1)
      where
        side-is : (f : Side) → same_side f givens_side ≡ true → f ≡ givens_side
        side-is givens_side e = refl
        side-is finds_side e = absurd (no-yes e)

    -- The names of given tables, and of those of finds.
    pub givens-named : map decl_name (map decl Gs) ≡ names_of_plans Gs
    givens-named = given-names Gs (some-facts S o h (is_on givens_side)) given-sides

    pub finds-named : map decl_name (append_all (map decls_of Fs)) ≡ names_of_plans Fs
    finds-named = decls-names Fs (some-facts S o h (is_on finds_side))

    -- A found table's name is none of a given one's.
    pub not-given : (n : Text) → In n (keys (names_of_plans Fs)) → is_among (keys (names_of_plans Gs)) n ≡ false
    not-given n i = go (is_among (keys (names_of_plans Gs)) n) refl
      where
        go : (b : Bool) → is_among (keys (names_of_plans Gs)) n ≡ b → is_among (keys (names_of_plans Gs)) n ≡ false
        go false q = q
        go true q = let z : true ≡ false = sym (in-among (keys (names_of_plans Fs)) n i)
            ∙ cross Ps (all-names-differ S o) n (among-in (keys (names_of_plans Gs)) n q) in cc

    named-in : (ts : List TableDecl) (t : TableDecl) → In t ts → In t.name (keys (map decl_name ts))
    named-in [] t i = absurd i
    named-in (u ∷ ts) t (inl e) = inl (ap (λ t. t.name) e)
    named-in (u ∷ ts) t (inr i) = inr (named-in ts t i)

    -- A table of a find is found by name among the names of finds.
    pub table-name : (P : Plan) → In P Fs → (t : TableDecl) → In t (decls_of P) → In t.name (keys (names_of_plans Fs))
    table-name P i t j = subst (λ l. In t.name (keys l)) finds-named
        (named-in (append_all (map decls_of Fs)) t (in-decls Fs P t i j))

    -- The same of the one table of a plan.
    pub found-name : (P : Plan) → In P Fs → is_nested_plan (kinds S) P ≡ false → In (decl P).name (keys (names_of_plans Fs))
    found-name P i k = table-name P i (decl P) (subst (In (decl P)) (sym (single-decls P k)) (inl refl))

    -- Each table of a find is declared.
    pub find-declared : (P : Plan) → In P Fs → (t : TableDecl) → In t (decls_of P) → declaration_of decls t.name ≡ Some t
    find-declared P i t j =
        skip-decls (map decl Gs) (append_all (map decls_of Fs)) t.name
        (ap (λ l. is_among l t.name) (names-are (map decl Gs) ∙ ap keys givens-named) ∙ not-given t.name (table-name P i t j))
        ∙ sym (none-behind (append_all (map decls_of Fs)) t.name)
        ∙ found-among (append_all (map decls_of Fs)) []
        (subst (λ l. all_distinct (keys l) ≡ true) (sym finds-named) (names-differ finds_side S o)) t (in-decls Fs P t i j)

    -- Each plan's table is declared.
    pub declared : (P : Plan) → In P Ps → is_nested_plan (kinds S) P ≡ false → declaration_of decls (decl P).name ≡ Some (decl P)
    declared P i k = go (side_of P) refl
      where
        go : (f : Side) → side_of P ≡ f → declaration_of decls (decl P).name ≡ Some (decl P)
        go givens_side e = found-among (map decl Gs) (append_all (map decls_of Fs))
            (subst (λ l. all_distinct (keys l) ≡ true) (sym givens-named) (names-differ givens_side S o)) (decl P)
            (in-mapped Gs P (in-filtered (is_on givens_side) P Ps i (ap (λ f. same_side f givens_side) e)))
        go finds_side e = find-declared P (in-filtered (is_on finds_side) P Ps i (ap (λ f. same_side f finds_side) e)) (decl P)
            (subst (In (decl P)) (sym (single-decls P k)) (inl refl))
