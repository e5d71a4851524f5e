-- The domains of the finds of a well typed specification are finite. So a solution's numbers fit where none of the parameter's is outside
-- 64 bits.
use Rattle.std.proofs.Common.{◌≡◌, refl, sym, ap, ◌∙◌, ℕ, suc, Bool, true, false, ◌&&◌, List, [], ◌∷◌, Some, None}
use Rattle.std.specs.List.{list_any}
use Rattle.ess_semantics.specs.Lists.{is_some_and}
use Rattle.ess_semantics.specs.Values.{Text, Value}
use Rattle.ess_semantics.specs.Names.{Names}
use Rattle.ess_semantics.specs.Trees.{Dom, Doms, bool_dom, int_dom, name_dom, tuple_dom, record_dom, matrix_dom, set_dom, mset_dom, function_dom, relation_dom, partition_dom, no_doms, more_doms, Stm, given, given_enum, let_ex, let_dom, let_enum, let_unnamed, needs, find, such_that, minimise, maximise}
use Rattle.ess_semantics.specs.Types.{Ty}
use Rattle.ess_semantics.specs.Contexts.{Each}
use Rattle.ess_semantics.specs.Scopes.{Scope, empty_scope}
use Rattle.ess_semantics.specs.DomainJudgements.{bounds_occurrences, is_finite, are_finite}
use Rattle.ess_semantics.specs.Lettings.{put_dom}
use Rattle.ess_semantics.specs.Resolving.{resolve_dom, resolve_doms}
use Rattle.ess_semantics.specs.Prepared.{prepared, resolve_stm}
use Rattle.ess_semantics.specs.Membership.{member}
use Rattle.ess_semantics.specs.Meaning.{Env, domain_of}
use Rattle.ess_semantics.specs.LargeSpecifications.{declares_large_number, parameter_is_large}
use Rattle.ess_semantics.specs.Judgements.{unknown_name, double_name, ill_typed, not_finite, not_enumerable, open_given, judgements, first_failed, first_fault, fault, domains_are_finite, put_in_scope, scope_after}
use Rattle.ess_semantics.specs.Assignments.{Assignment, nothing_given, Placed, placed, value_of}
use Rattle.ess_semantics.specs.Parameters.{Param, is_member}
use Rattle.ess_semantics.specs.Solutions.{Sol, find_is_member}
use Rattle.ess_semantics.proofs.Tests.{and-left, some-and, or-left-no, or-right-no}
use Rattle.ess_grammar.specs.Readable.{ReadableStms}
use Rattle.ess_values_laws.specs.Spellable.{numbers_fit}
use Rattle.ess_member_literals_laws.specs.ToldDomains.{IsTold}
use Rattle.conjure_laws.specs.Members.{In}
use Rattle.conjure_laws.specs.Premises.{here, IsSettled}
use Rattle.conjure_laws.proofs.Lists.{at-item, each-both, each-map, each-of-list}
use Rattle.conjure_laws.proofs.PlacedStatements.{at-place}
use Rattle.conjure_laws.proofs.SetScopesTyped.{passed, later_judgements, no-fault}
use Rattle.conjure_settled_laws.proofs.SettledStatements.{from_place, typed-is-settled}
use Rattle.ess_values_laws.specs.ItemNames.{item_name}
use Rattle.ess_value_names_laws.specs.ValueNames.{HasValueNames}
use Rattle.ess_value_names_laws.proofs.PlacedNames.{values-have-names}
use Rattle.conjure_round_laws.proofs.NumbersFit.{member-fit}

-- ---- resolved

two : (a b c d : Bool) → a ≡ b → c ≡ d → a && c ≡ b && d
two a b c d e f = ap (λ x. x && c) e ∙ ap (λ x. b && x) f

mutual
  finite-resolved : (d : Dom) (g : Names Ty) → is_finite (resolve_dom d g) ≡ is_finite d
  finite-resolved bool_dom g = refl
  finite-resolved (int_dom rs es) g = refl
  finite-resolved (name_dom a) g = refl
  finite-resolved (tuple_dom ds) g = all-resolved ds g
  finite-resolved (record_dom fs ds) g = all-resolved ds g
  finite-resolved (matrix_dom is d) g =
      two (are_finite (resolve_doms is g)) (are_finite is) (is_finite (resolve_dom d g)) (is_finite d) (all-resolved is g) (finite-resolved d g)
  finite-resolved (set_dom ms es d) g = finite-resolved d g
  finite-resolved (mset_dom ms es d) g = ap (λ b. b && bounds_occurrences ms) (finite-resolved d g)
  finite-resolved (function_dom ms es d c) g =
      two (is_finite (resolve_dom d g)) (is_finite d) (is_finite (resolve_dom c g)) (is_finite c) (finite-resolved d g) (finite-resolved c g)
  finite-resolved (relation_dom ms es ds) g = all-resolved ds g
  finite-resolved (partition_dom ms es d) g = finite-resolved d g

  all-resolved : (ds : Doms) (g : Names Ty) → are_finite (resolve_doms ds g) ≡ are_finite ds
  all-resolved no_doms g = refl
  all-resolved (more_doms d ds) g =
      two (is_finite (resolve_dom d g)) (is_finite d) (are_finite (resolve_doms ds g)) (are_finite ds) (finite-resolved d g) (all-resolved ds g)

-- ---- statement by statement

-- The domain of a find is finite.
abbrev FoundIsFinite : Stm → Type 0
FoundIsFinite (find x d) = is_finite d ≡ true
FoundIsFinite s = Unit {0}

judged-finite : (w t : Stm) (s : Scope) → first_failed judgements w t s ≡ None → domains_are_finite t s ≡ true
judged-finite w t s e =
    let a = passed unknown_name (double_name ∷ later_judgements) w t s e in
    let b = passed double_name later_judgements w t s a.1 in
    let c = passed ill_typed (not_finite ∷ not_enumerable ∷ open_given ∷ []) w t s b.1 in
    (passed not_finite (not_enumerable ∷ open_given ∷ []) w t s c.1).0

found-finite : (x : Text) (d : Dom) (s : Scope) → domains_are_finite (find x d) s ≡ true → is_finite (resolve_dom d s.tys) ≡ true
found-finite x d s h = finite-resolved d s.tys ∙ and-left (is_finite d) _ h

of-stm : (w : Stm) (s : Scope) → domains_are_finite (put_in_scope w s) s ≡ true → FoundIsFinite (resolve_stm (put_in_scope w s) s.tys)
of-stm (find x d) s h = found-finite x (put_dom d s.lets s.tys) s h
of-stm (given x d) s h = tt
of-stm (given_enum t) s h = tt
of-stm (let_ex x e) s h = tt
of-stm (let_dom x d) s h = tt
of-stm (let_enum t ns) s h = tt
of-stm (let_unnamed t e) s h = tt
of-stm (needs e) s h = tt
of-stm (such_that e) s h = tt
of-stm (minimise e) s h = tt
of-stm (maximise e) s h = tt

finite-from : (k : ℕ) (ws : List Stm) (s : Scope) → first_fault k ws s ≡ None → Each (from_place ws s) FoundIsFinite
finite-from k [] s e = tt
finite-from k (w ∷ ws) s e =
    let t : Stm = put_in_scope w s in
    let h = no-fault (first_failed judgements w t s) (first_fault (suc k) ws (scope_after t s)) k e in
    (of-stm w s (judged-finite w t s h.0), finite-from (suc k) ws (scope_after t s) h.1)

-- ---- the numbers of a solution

no-larger : (ls : List Placed) → list_any (λ l. declares_large_number l.stm l.env) ls ≡ false →
    Each ls (λ l. declares_large_number l.stm l.env ≡ false)
no-larger [] h = tt
no-larger (l ∷ ls) h = (
  or-left-no (declares_large_number l.stm l.env) (list_any (λ l. declares_large_number l.stm l.env) ls) h,
  no-larger ls (or-right-no (declares_large_number l.stm l.env) (list_any (λ l. declares_large_number l.stm l.env) ls) h),
)

module _ (S : List Stm) (p a : Assignment) (e : fault S ≡ None) (r : ReadableStms S) (P : Param S p) (l : parameter_is_large S p ≡ false)
    (s : Sol S p a) where
  -- What a statement says at its place under the parameter alone.
  abbrev Under : Stm → Env → Type 0
  Under t env = (IsSettled S p nothing_given t env × (declares_large_number t env ≡ false)) × (env.positions ≡ false)

  under : Each (placed S p nothing_given) (λ l. Under l.stm l.env)
  under = each-both (placed S p nothing_given)
      (λ l. IsSettled S p nothing_given l.stm l.env × (declares_large_number l.stm l.env ≡ false)) (λ l. l.env.positions ≡ false)
      (λ l. Under l.stm l.env) (λ l h k. (h, k))
      (each-both (placed S p nothing_given) (λ l. IsSettled S p nothing_given l.stm l.env) (λ l. declares_large_number l.stm l.env ≡ false)
      (λ l. IsSettled S p nothing_given l.stm l.env × (declares_large_number l.stm l.env ≡ false)) (λ l h k. (h, k))
      ((typed-is-settled S e).settled p nothing_given P) (no-larger (placed S p nothing_given) l))
      (each-map (placed S p nothing_given) (λ l. HasValueNames (item_name (here S p).types) l.env) (λ l. l.env.positions ≡ false)
      (λ l h. h.plain.0) (values-have-names S p nothing_given e r P l))

  -- What it says with the values of the finds.
  abbrev With : Stm → Env → Type 0
  With t env = IsSettled S p a t env × (find_is_member a t env ≡ true)

  with_values : Each (placed S p a) (λ l. With l.stm l.env)
  with_values = each-both (placed S p a) (λ l. IsSettled S p a l.stm l.env) (λ l. find_is_member a l.stm l.env ≡ true)
      (λ l. With l.stm l.env) (λ l h k. (h, k)) ((typed-is-settled S e).settled p a P)
      (each-of-list (placed S p a) (λ l. find_is_member a l.stm l.env) s.in_domains.are_members)

  -- The numbers of a find's value fit.
  pub find-fits : (x : Text) (d : Dom) → In (find x d) (prepared S) → IsTold d → (v : Value) → value_of a x ≡ Some v →
      numbers_fit v ≡ true
  find-fits x d i t v q =
      let z = at-place S p nothing_given Under (find x d) i under in
      let w = at-place S p a With (find x d) i with_values in
      let m : is_member d w.0 v ≡ true = sym (ap (λ o. is_some_and o (is_member d w.0)) q) ∙ w.1.1 in
      let c = some-and (domain_of d w.0) (λ c. member c v) m in
      let f : is_finite d ≡ true = at-item FoundIsFinite (prepared S) (find x d) (finite-from 1 S empty_scope e) i in
      let k : domain_of d z.0 ≡ Some c.0 = z.1.0.0 ∙ sym w.1.0 ∙ c.1 in
      member-fit z.0 z.1.1 d c.0 t f z.1.0.1 k v c.2
