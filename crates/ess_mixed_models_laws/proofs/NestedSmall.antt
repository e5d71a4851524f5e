-- The sizes that a plan takes are small where the numbers of the specification are, and tables with small bounds aren't large.
use Rattle.std.proofs.Common.{◌≡◌, sym, ap, ◌∙◌, true, false, ◌&&◌, Bool, List, [], ◌∷◌, ◌++◌, ◌⊎◌, inl, inr, map, ℤ, pos, ◌+ℤ◌, Some, None}
use Rattle.std.specs.List.{list_all}
use Rattle.ess_semantics.specs.Lists.{append_all}
use Rattle.ess_semantics.specs.Values.{Text}
use Rattle.ess_semantics.specs.Names.{Names}
use Rattle.ess_semantics.specs.Trees.{Repr, Dom, Stm}
use Rattle.ess_semantics.specs.Domains.{Domain}
use Rattle.ess_semantics.specs.Tables.{Table}
use Rattle.ess_semantics.specs.TableNames.{Named}
use Rattle.ess_semantics.specs.Contexts.{Each}
use Rattle.ess_semantics.specs.DeclaredTables.{TableDecl}
use Rattle.ess_semantics.specs.Large.{in_64_bits, is_large, dummies}
use Rattle.ess_semantics.specs.LargeModels.{decl_is_large}
use Rattle.ess_semantics.specs.SizeNumbers.{numbers_are_small, numbers_of_statement_small, types_are_small, with_next, numbers_of_plan, sizes_taken, bound_differences, numbers_taken}
use Rattle.ess_semantics.specs.Meaning.{domain_of}
use Rattle.ess_semantics.specs.ModelMeaning.{env_of_tables}
use Rattle.ess_semantics.specs.Assignments.{Assignment, nothing_given, placed}
use Rattle.ess_semantics.specs.Plans.{Options, finds_side, Plan, value_plan, plans}
use Rattle.ess_semantics.proofs.Tests.{and-left, and-right}
use Rattle.conjure_laws.specs.Members.{In}
use Rattle.conjure_laws.specs.Premises.{here}
use Rattle.conjure_laws.proofs.Lists.{test-append}
use Rattle.ess_nested_tables_laws.proofs.TableBounds.{DeclHas}
use Rattle.ess_nested_tables_laws.proofs.ReckonedTables.{Numeral}
use Rattle.ess_nested_tables_laws.proofs.SmallTables.{decl-small}

front : (xs ys : List ℤ) → list_all in_64_bits (xs ++ ys) ≡ true → list_all in_64_bits xs ≡ true
front xs ys h = and-left (list_all in_64_bits xs) (list_all in_64_bits ys) (sym (test-append in_64_bits xs ys) ∙ h)

of-one : (g : Plan → List ℤ) (Qs : List Plan) (P : Plan) → In P Qs → list_all in_64_bits (append_all (map g Qs)) ≡ true →
    list_all in_64_bits (g P) ≡ true
of-one g [] P i h = absurd i
of-one g (Q ∷ Qs) P i h = go i (sym (test-append in_64_bits (g Q) (append_all (map g Qs))) ∙ h) (λ j. of-one g Qs P j)
  where
    go : (P ≡ Q) ⊎ In P Qs → list_all in_64_bits (g Q) && list_all in_64_bits (append_all (map g Qs)) ≡ true →
        (In P Qs → list_all in_64_bits (append_all (map g Qs)) ≡ true → list_all in_64_bits (g P) ≡ true) →
        list_all in_64_bits (g P) ≡ true
    go (inl e) h f = ap (λ P. list_all in_64_bits (g P)) e
        ∙ and-left (list_all in_64_bits (g Q)) (list_all in_64_bits (append_all (map g Qs))) h
    go (inr j) h f = f j (and-right (list_all in_64_bits (g Q)) (list_all in_64_bits (append_all (map g Qs))) h)

-- The sizes that a plan takes are small.
pub taken-small : (S : List Stm) (o : Options) (p : Assignment) → numbers_are_small S o p ≡ true → (x : Text) (r : Repr) (d : Dom)
    (ns : List Named) (e : Domain) → In (value_plan finds_side x r d ns) (plans S o) → domain_of d (here S p) ≡ Some e →
    list_all in_64_bits (map pos (sizes_taken r e)) ≡ true
taken-small S o p small x r d ns e i k =
    let all : List ℤ = append_all (map (numbers_of_plan (here S p)) (plans S o)) in
    let u : Bool = list_all (λ l. numbers_of_statement_small l.stm l.env) (placed S p nothing_given) in
    let w : Bool = list_all in_64_bits (with_next all) in
    let a = front all (map (λ n. n +ℤ pos 1) all) (and-right u w (and-left (u && w) (types_are_small S p) small)) in
    let b = of-one (numbers_of_plan (here S p)) (plans S o) (value_plan finds_side x r d ns) i a in
    let c : list_all in_64_bits (numbers_taken r e) ≡ true =
    ap (λ z. list_all in_64_bits (elim z [ None ↦ [] | Some e ↦ numbers_taken r e ])) (sym k) ∙ b in
    front (map pos (sizes_taken r e)) (bound_differences e) (front (map pos (sizes_taken r e) ++ bound_differences e) (dummies r e) c)

-- Tables whose bounds are small arithmetic of numerals aren't large.
pub each-small : (ds : List TableDecl) (q : Names Table) (ts : List TableDecl) → Each ts (DeclHas Numeral) →
    Each ts (DeclHas (λ e. is_large e (env_of_tables q) ≡ false)) → Each ts (λ d. decl_is_large ds q d ≡ false)
each-small ds q [] a b = tt
each-small ds q (t ∷ ts) a b = (decl-small ds q t a.0 b.0, each-small ds q ts a.1 b.1)
