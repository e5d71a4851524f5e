-- The declared domains of models of sets are small where the numbers of the specification are, those of values of named types
-- among them.
use Rattle.std.proofs.Common.{◌≡◌, refl, sym, ap, ◌∙◌, subst, Bool, true, false, ◌&&◌, ◌||◌, not, List, [], ◌∷◌, map, length, ℤ, pos, ◌+ℤ◌, inl, inr, Option, Some}
use Rattle.std.specs.List.{list_all, list_any}
use Rattle.ess_semantics.specs.Values.{Text}
use Rattle.ess_semantics.specs.Order.{same_text}
use Rattle.ess_semantics.specs.Names.{Names, look}
use Rattle.ess_semantics.specs.declared.words.Op2.{Op2}
use Rattle.ess_semantics.specs.declared.words.ReprKind.{ReprKind}
use Rattle.ess_semantics.specs.Trees.{repr, no_reprs, binary, plain_node, both_ends, number_ex, no_exs, more_exs, int_dom, Stm, find}
use Rattle.ess_semantics.specs.Lists.{list_or_none, append_all}
use Rattle.ess_semantics.specs.Tables.{Table, one_cell}
use Rattle.ess_semantics.specs.Large.{in_64_bits, is_big, is_large, is_large_dom}
use Rattle.ess_semantics.specs.SizeNumbers.{numbers_are_small, numbers_of_statement_small, part_stays_small, types_are_small, with_next, numbers_of_plan}
use Rattle.ess_semantics.specs.Meaning.{Env, TypeEntry, type_entry, cell_in}
use Rattle.ess_semantics.specs.ModelMeaning.{kinded_dom, env_of_tables, as_bound}
use Rattle.ess_semantics.specs.LargeModels.{decl_is_large, declares_large}
use Rattle.ess_semantics.specs.Prepared.{prepared}
use Rattle.ess_semantics.specs.Assignments.{Assignment, nothing_given, placed}
use Rattle.ess_semantics.specs.Plans.{Plan, size_plan, plans, plans_for, givens_side, finds_side}
use Rattle.conjure_laws.specs.Premises.{is_on, Instance, here}
use Rattle.ess_semantics.specs.ModelTrees.{all_decls}
use Rattle.ess_semantics.specs.DeclaredTables.{TableDecl}
use Rattle.ess_semantics.proofs.Tests.{and-left, and-right}
use Rattle.ess_semantics.specs.Contexts.{Each}
use Rattle.conjure_laws.proofs.Lists.{each-of-list, at-item, in-filter, each-append, test-append}
use Rattle.conjure_laws.specs.Members.{In}
use Rattle.conjure_laws.proofs.Statements.{plan-is-found}
use Rattle.conjure_laws.proofs.PlacedStatements.{at-place}
use Rattle.conjure_laws.specs.SetsOfAtoms.{Line, none_declared, spec, sets_of, TypeKind, Atom, range, after_all, fixed, typed, boolean, sized}
use Rattle.conjure_laws.proofs.SetScopes.{Fine, count_of}
use Rattle.conjure_laws.specs.ModelsOfSets.{no_options, model_of, decl_of, axis_of_set, axis_for, size_name}
use Rattle.conjure_laws.proofs.SetPlans.{PlanFact, size_fact, all-facts, occ_fact, size-of, ground, some-facts}
use Rattle.conjure_laws.proofs.SetFacts.{AtomFact}
use Rattle.conjure_laws.proofs.Givens.{given-plan}
use Rattle.conjure_laws.proofs.SetCells.{only-table, declared-size}
use Rattle.conjure_laws.proofs.SetDeclarations.{sizes-int, unfound, named-size}

-- Numbers that are small.
entry-small : (ts : List TypeEntry) (t : Text) (e : TypeEntry) → list_all in_64_bits (map (λ t. pos t.count) ts) ≡ true →
    type_entry ts t ≡ Some e →
    in_64_bits (pos e.count) ≡ true
entry-small [] t e h q = cc
entry-small (u ∷ ts) t e h q = go (same_text u.name t) q (entry-small ts t e
    (and-right (in_64_bits (pos u.count)) (list_all in_64_bits (map (λ t. pos t.count) ts)) h))
  where
    go : (b : Bool) → (elim b as (λ b. Option TypeEntry) [ true ↦ Some u | false ↦ type_entry ts t ]) ≡ Some e →
        (type_entry ts t ≡ Some e → in_64_bits (pos e.count) ≡ true) → in_64_bits (pos e.count) ≡ true
    go true q k =
        let z : u ≡ e = cc in
        ap (λ x. in_64_bits (pos x.count)) (sym z) ∙ and-left (in_64_bits (pos u.count))
        (list_all in_64_bits (map (λ t. pos t.count) ts)) h
    go false q k = k q

none-any : {A : Type 0} (f : A → Bool) (xs : List A) → Each xs (λ x. f x ≡ false) → list_any f xs ≡ false
none-any f [] h = refl
none-any f (x ∷ xs) h = ap (λ b. b || list_any f xs) h.0 ∙ none-any f xs h.1

range-small : (a b : ℤ) (env : Env) → in_64_bits a ≡ true → in_64_bits b ≡ true →
    is_large_dom (int_dom (both_ends ∷ []) (more_exs (number_ex a) (more_exs (number_ex b) no_exs))) env ≡ false
range-small a b env e f = ap (λ x. not x || (not (in_64_bits b) || false)) e ∙ ap (λ x. not x || false) f

twice : (b c : Bool) → not (not b) && c ≡ true → b ≡ true
twice true c e = refl
twice false c e = cc

module _ (T : List Line) (ok : Fine none_declared T) (p : Assignment) (q : Names Table) (I : Instance (spec T) no_options p q)
    (small : numbers_are_small (spec T) no_options p ≡ true) where
  abbrev S : List Stm
  S = spec T

  abbrev large : TableDecl → Bool
  large = decl_is_large (all_decls (model_of T)) q

  types-small : types_are_small S p ≡ true
  types-small = and-right (list_all (λ l. numbers_of_statement_small l.stm l.env) (placed S p nothing_given) && list_all in_64_bits
      (with_next (append_all (map (numbers_of_plan (here S p)) (plans S no_options))))) (types_are_small S p) small

  counts : list_all in_64_bits (map (λ t. pos t.count) (here S p).types) ≡ true
  counts =
      let ns : List ℤ = map (λ t. pos t.count) (here S p).types in
      and-left (list_all in_64_bits ns) (list_all in_64_bits (map (λ n. n +ℤ pos 1) ns))
      (sym (test-append in_64_bits ns (map (λ n. n +ℤ pos 1) ns)) ∙ types-small)

  find-small : (x : Text) (a b : ℤ) → In (find x (sets_of (range a b))) (prepared S) → (in_64_bits a ≡ true) × (in_64_bits b ≡ true)
  find-small x a b i =
      let h = at-place S p nothing_given (λ s env. numbers_of_statement_small s env ≡ true) (find x (sets_of (range a b))) i
      (each-of-list (placed S p nothing_given) (λ l. numbers_of_statement_small l.stm l.env)
      (and-left (list_all (λ l. numbers_of_statement_small l.stm l.env) (placed S p nothing_given))
      (list_all in_64_bits (with_next (append_all (map (numbers_of_plan (here S p)) (plans S no_options)))))
      (and-left (list_all (λ l. numbers_of_statement_small l.stm l.env) (placed S p nothing_given) && list_all in_64_bits
      (with_next (append_all (map (numbers_of_plan (here S p)) (plans S no_options))))) (types_are_small S p) small)))
      in
      let sa : Bool = part_stays_small (number_ex a) h.0 in
      let sb : Bool = part_stays_small (number_ex b) h.0 in
      let both : sa && (sb && true) ≡ true = and-left (sa && (sb && true)) true h.1 in (
        twice (in_64_bits a) (not (is_large (plain_node (binary Op2.Plus)
            (more_exs (number_ex a) (more_exs (number_ex (pos 1)) no_exs)))
            h.0)) (and-left sa (sb && true) both),
        twice (in_64_bits b) (not (is_large (plain_node (binary Op2.Plus)
            (more_exs (number_ex b) (more_exs (number_ex (pos 1)) no_exs)))
            h.0)) (and-left sb true (and-right sa (sb && true) both)),
      )

  abbrev ks : Names TypeKind
  ks = (after_all T none_declared).types

  abbrev Ps : List Plan
  Ps = plans S no_options

  abbrev Gs : List Plan
  Gs = plans_for givens_side S no_options

  abbrev Fs : List Plan
  Fs = plans_for finds_side S no_options

  axis-small : (A : Atom) (f : AtomFact T ok A) → ((a b : ℤ) → A ≡ range a b → (in_64_bits a ≡ true) × (in_64_bits b ≡ true)) →
      is_large_dom (kinded_dom (all_decls (model_of T)) (axis_of_set ks Ps (sets_of A)) []) (env_of_tables q) ≡ false
  axis-small (range a b) f h = let r = h a b refl in range-small a b (env_of_tables q) r.0 r.1
  axis-small boolean f h = refl
  axis-small (typed t) f h = ap (λ o. is_large_dom (kinded_dom (all_decls (model_of T)) (axis_for Ps t o) []) (env_of_tables q)) f.1
      ∙ go f.0 f.1 (entry-small (here S p).types t (record { name = t; count = count_of p t f.0; names = (f.2 p).0 }) counts
      (f.2 p).1)
    where
      go : (k : TypeKind) → look ks t ≡ Some k → in_64_bits (pos (count_of p t k)) ≡ true →
          is_large_dom (kinded_dom (all_decls (model_of T)) (axis_for Ps t (Some k)) []) (env_of_tables q) ≡ false
      go (fixed m) e b = range-small (pos 1) (pos m) (env_of_tables q) refl b
      go sized e b =
          let n : Text = size_name Ps t in
          let i = size-of T ok t e in
          let g = given-plan S no_options (ground T ok) p q I (size_plan t n) i in
          let tb = only-table (look q n) g.0 (one_cell (pos (length g.1.0))) g.1.2 g.2 in
          let k = declared-size (map (decl_of ks Ps) (Gs)) (map (decl_of ks Ps) (Fs))
          (sizes-int T ok (Gs) (some-facts T ok (is_on givens_side)) (unfound T ok)) n (named-size T ok (Gs) t n i) in
          let b' : in_64_bits (pos (length g.1.0)) ≡ true = ap (λ o. in_64_bits (pos (length (list_or_none o)))) (sym g.1.1) ∙ b in
          ap (λ c. not (in_64_bits (pos 1)) || (is_large (as_bound c) (env_of_tables q) || false)) k
          ∙ ap (λ o. (is_big (cell_in false o (Some [])) || false) || false) tb ∙ ap (λ x. (not x || false) || false) b'

  decl-small : (P : Plan) → In P Ps → PlanFact T ok P → large (decl_of ks Ps P) ≡ false
  decl-small P i (size_fact t n e) = subst (λ P. large (decl_of ks Ps P) ≡ false) (sym e) refl
  decl-small P i (occ_fact x A n e f) = subst (λ P. large (decl_of ks Ps P) ≡ false) (sym e)
      (ap (λ b. (b || false) || false) (axis-small A f (λ a b z.
      find-small x a b (subst (λ A. In (find x (sets_of A)) (prepared S)) z
      (plan-is-found S no_options x (repr ReprKind.Occurrence no_reprs) (sets_of A) ((n, 1) ∷ []) (subst (λ P. In P Ps) e i))))))

  decls-small : (Rs : List Plan) → ((P : Plan) → In P Rs → In P Ps) → Each (map (decl_of ks Ps) Rs) (λ d. large d ≡ false)
  decls-small [] f = tt
  decls-small (P ∷ Rs) f = (
    decl-small P (f P (inl refl)) (at-item (PlanFact T ok) Ps P (all-facts T ok) (f P (inl refl))),
    decls-small Rs (λ R i. f R (inr i)),
  )

  -- The declared domains are small.
  pub domains-small : not (declares_large (model_of T) q) ≡ true
  domains-small = ap not (none-any large (all_decls (model_of T))
      (each-append (λ d. large d ≡ false) (map (decl_of ks Ps) (Gs)) (map (decl_of ks Ps) (Fs))
      (decls-small (Gs) (λ P i. (in-filter (is_on givens_side) P Ps i).0))
      (decls-small (Fs) (λ P i. (in-filter (is_on finds_side) P Ps i).0))))
