-- Generators over sets made of others keep what they rewrite.
use Rattle.std.proofs.Common.{◌≡◌, refl, sym, ap, ◌∙◌, subst, Bool, true, false, not, List, [], ◌∷◌, ◌++◌, filter, Option, Some, None, option_map, if◌then◌else◌}
use Rattle.std.specs.Prelude.{is_some}
use Rattle.ess_semantics.specs.declared.words.Op1.{Op1}
use Rattle.ess_semantics.specs.declared.words.Op2.{Op2}
use Rattle.ess_semantics.specs.declared.words.Fun.{Fun}
use Rattle.ess_semantics.specs.Lists.{and_then, all_some}
use Rattle.ess_semantics.specs.Values.{Text, Value, truth, items_of}
use Rattle.ess_semantics.specs.Collections.{holds, sorted_once}
use Rattle.ess_semantics.specs.Names.{Names}
use Rattle.ess_semantics.specs.Trees.{Op, binary, word, name_pat, Ex, name_ex, comp_ex, ex1, ex2, fun1, Gens, from, cond}
use Rattle.ess_semantics.specs.Types.{Ty}
use Rattle.ess_semantics.specs.Typing.{type_of}
use Rattle.ess_semantics.specs.Typed.{Typed}
use Rattle.ess_semantics.specs.Operators.{as_truth, list_value, value_of_op, value_of_node}
use Rattle.ess_semantics.specs.Meaning.{Env, meaning, items_under, collect, where_true}
use Rattle.ess_semantics.specs.Contexts.{Each, EachOf, EachIn}
use Rattle.ess_semantics.specs.Meets.{Meets, MeetsGens}
use Rattle.ess_semantics.proofs.Orders.{to_list-of_list}
use Rattle.ess_semantics.proofs.Sorting.{sorted_once-itself}
use Rattle.ess_rules_laws.specs.InclusionRules.{both_sets}
use Rattle.ess_rules_laws.specs.Listings.{is_strict}
use Rattle.ess_rules_laws.specs.SpliceRules.{SourceThere}
use Rattle.ess_rules_laws.specs.GeneratorRules.{generate, SourceSound, GenerateKeeps}
use Rattle.ess_rules_laws.proofs.Bindings.{each-map, collect-each}
use Rattle.ess_rules_laws.proofs.RuleAnswers.{AnswerKeeps, fires, when-so, behind, meets-behind, each-any}
use Rattle.ess_rules_laws.proofs.Connectives.{not-means}
use Rattle.ess_rules_laws.proofs.ContainerValues.{Strictly, sets-of}
use Rattle.ess_rules_laws.proofs.InclusionRules.{member-body}
use Rattle.ess_rules_laws.proofs.Listings.{both-items, rest-items, strictly-of}
use Rattle.ess_rules_laws.proofs.Splices.{append-nothing}

-- ---- some of the items

-- What is collected from the items that pass a test.
pub collect-filter : (t : Value → Bool) (vs : List Value) (F : Value → Option (List Value)) → collect (filter t vs) F ≡ collect vs (λ v. where_true (Some (truth (t v))) (λ u. F v))
collect-filter t [] F = refl
collect-filter t (v ∷ vs) F = go (t v) (collect-filter t vs F)
  where
    go : (b : Bool) → collect (filter t vs) F ≡ collect vs (λ v. where_true (Some (truth (t v))) (λ u. F v)) → collect (if b then v ∷ filter t vs else filter t vs) F
        ≡ and_then (where_true (Some (truth b)) (λ u. F v)) (λ xs. option_map (λ ys. xs ++ ys) (collect vs (λ v. where_true (Some (truth (t v))) (λ u. F v))))
    go true h = ap (λ o. and_then (F v) (λ xs. option_map (λ ys. xs ++ ys) o)) h
    go false h = h ∙ sym (append-nothing (collect vs (λ v. where_true (Some (truth (t v))) (λ u. F v))))

-- What holds of the items that pass a test.
pub each-filter : (t : Value → Bool) (vs : List Value) (P : Value → Type 0) → Each (filter t vs) P → Each vs (λ v. t v ≡ true → P v)
each-filter t [] P a = tt
each-filter t (v ∷ vs) P a = go (t v) refl a (λ b. each-filter t vs P b)
  where
    go : (b : Bool) → t v ≡ b → Each (if b then v ∷ filter t vs else filter t vs) P → (Each (filter t vs) P → Each vs (λ v. t v ≡ true → P v)) → (t v ≡ true → P v) × Each vs (λ v. t v ≡ true → P v)
    go true q a r = ((λ z. a.0), r a.1)
    go false q a r = ((λ z. absurd (let w : false ≡ true = sym q ∙ z in cc)), r a)

-- A generator over a value reads its items.
pub read-items : (o : Option Value) (F : Value → Option (List Value)) → and_then o (λ w. collect (items_of w) F) ≡ and_then (option_map items_of o) (λ us. collect us F)
read-items None F = refl
read-items (Some w) F = refl

-- What holds of the items of a value.
pub each-items : (o : Option Value) (P : Value → Type 0) → EachIn o P → EachOf (option_map items_of o) P
each-items None P a = a
each-items (Some w) P a = a

-- ---- under a condition

-- The items of the source are those of a that pass the test t, which the condition c says.
module _ (y : Text) (s a c e : Ex) (hs : Gens) (env : Env) (v : Value) (j : meaning a env ≡ Some v) (t : Value → Bool) (items : option_map items_of (meaning s env) ≡ Some (filter t (items_of v)))
    (says : (u : Value) → meaning c (behind y u env) ≡ Some (truth (t u))) where
  abbrev F : Value → Option (List Value)
  F u = items_under hs (behind y u env) (λ here. option_map (λ w. w ∷ []) (meaning e here))

  picked-means : meaning (comp_ex e (from (name_pat y) s hs)) env ≡ meaning (comp_ex e (from (name_pat y) a (cond c hs))) env
  picked-means = ap (option_map list_value)
      (read-items (meaning s env) F ∙ ap (λ o. and_then o (λ us. collect us F)) items ∙ collect-filter t (items_of v) F
      ∙ collect-each (items_of v) _ _ (each-any (items_of v) _ (λ u. ap (λ o. where_true o (λ z. F u)) (sym (says u))))
      ∙ sym (ap (λ o. and_then o (λ w. collect (items_of w) (λ u. where_true (meaning c (behind y u env)) (λ z. F u)))) j))

  abbrev Behind : Value → Type 0
  Behind u = MeetsGens hs (behind y u env) (λ here. Meets e here)

  picked-met : EachIn (meaning s env) Behind → ((u : Value) → Meets c (behind y u env)) → EachIn (meaning a env) (λ u. Meets c (behind y u env) × (as_truth (meaning c (behind y u env)) ≡ true → Behind u))
  picked-met m f = subst (λ o. EachIn o (λ u. Meets c (behind y u env) × (as_truth (meaning c (behind y u env)) ≡ true → Behind u))) (sym j)
      (each-map (items_of v) _ _ (λ u k. (f u, λ z. k (sym (ap as_truth (says u)) ∙ z)))
      (each-filter t (items_of v) Behind (subst (λ o. EachOf o Behind) items (each-items (meaning s env) Behind m))))

-- The operands of a source that is there are there.
pub operands-there : (op : Op) (o p : Option Value) → is_some (and_then (all_some (o ∷ p ∷ [])) (value_of_op op)) ≡ true → (v : Value) × (w : Value) × (o ≡ Some v) × (p ≡ Some w)
operands-there op None p t = cc
operands-there op (Some v) None t = cc
operands-there op (Some v) (Some w) t = (v, w, refl, refl)

-- A source with the items of another term.
same-items : (y : Text) (s a e : Ex) (hs : Gens) (env : Env) → option_map items_of (meaning s env) ≡ option_map items_of (meaning a env) →
    meaning (comp_ex e (from (name_pat y) s hs)) env ≡ meaning (comp_ex e (from (name_pat y) a hs)) env
same-items y s a e hs env q = ap (option_map list_value) (read-items (meaning s env) F ∙ ap (λ o. and_then o (λ us. collect us F)) q ∙ sym (read-items (meaning a env) F))
  where
    F : Value → Option (List Value)
    F u = items_under hs (behind y u env) (λ here. option_map (λ w. w ∷ []) (meaning e here))

same-met : (o p : Option Value) (P : Value → Type 0) → option_map items_of o ≡ option_map items_of p → EachIn o P → EachIn p P
same-met o p P q a = back p (subst (λ z. EachOf z P) q (each-items o P a))
  where
    back : (p : Option Value) → EachOf (option_map items_of p) P → EachIn p P
    back None a = a
    back (Some w) a = a

-- A set made of a container whose list rises strictly has its items.
strict-items : (o : Option Value) → ((v : Value) → o ≡ Some v → Strictly (items_of v)) → option_map items_of (value_of_node (word Fun.ToSet) (o ∷ [])) ≡ option_map items_of o
strict-items None h = refl
strict-items (Some v) h = ap Some (to_list-of_list (sorted_once (items_of v)) ∙ sorted_once-itself (items_of v) (h v refl))

-- So it is with the set of parts.
parts-items : (o : Option Value) → ((v : Value) → o ≡ Some v → Strictly (items_of v)) → option_map items_of (value_of_node (word Fun.Parts) (o ∷ [])) ≡ option_map items_of o
parts-items None h = refl
parts-items (Some v) h = ap Some (to_list-of_list (sorted_once (items_of v)) ∙ sorted_once-itself (items_of v) (h v refl))

generate-answer : (g : Names Ty) (e : Ex) → SourceSound g e → (env : Env) → Typed g env → SourceThere e env → AnswerKeeps (generate g e) e env
generate-answer g (comp_ex e (from (name_pat y) (ex2 false Op2.Intersect a b) hs)) s env t i = when-so (both_sets (type_of a g) (type_of b g)) _ (comp_ex e (from (name_pat y) (ex2 false Op2.Intersect a b) hs)) env
    (λ q m. let r = operands-there (binary Op2.Intersect) (meaning a env) (meaning b env) i in
    let p = sets-of env.positions env.types (type_of a g) (type_of b g) r.0 r.1 q (λ z y. s.1.0 z y env t r.0 r.2) (λ z y. s.1.1.0 z y env t r.1 r.3) in
    let c = ex2 true Op2.Member (name_ex y) b in (
      picked-means y (ex2 false Op2.Intersect a b) a c e hs env r.0 r.2 (holds (items_of r.1)) (both-items a b env r.0 r.1 r.2 r.3 p) (member-body y b env r.1 s.0.1.0 r.3),
      (
        m.0.0,
        picked-met y (ex2 false Op2.Intersect a b) a c e hs env r.0 r.2 (holds (items_of r.1)) (both-items a b env r.0 r.1 r.2 r.3 p) (member-body y b env r.1 s.0.1.0 r.3) m.1
            (λ u. (tt, (meets-behind y u b env s.0.1.0 m.0.1.0, tt))),
      ),
    ))
generate-answer g (comp_ex e (from (name_pat y) (ex2 false Op2.Minus a b) hs)) s env t i = when-so (both_sets (type_of a g) (type_of b g)) _ (comp_ex e (from (name_pat y) (ex2 false Op2.Minus a b) hs)) env
    (λ q m. let r = operands-there (binary Op2.Minus) (meaning a env) (meaning b env) i in
    let p = sets-of env.positions env.types (type_of a g) (type_of b g) r.0 r.1 q (λ z y. s.1.0 z y env t r.0 r.2) (λ z y. s.1.1.0 z y env t r.1 r.3) in
    let c = ex1 true Op1.Not (ex2 true Op2.Member (name_ex y) b) in
    let says = (λ (u : Value). not-means (behind y u env) (ex2 true Op2.Member (name_ex y) b) (holds (items_of r.1) u) (member-body y b env r.1 s.0.1.0 r.3 u)) in (
      picked-means y (ex2 false Op2.Minus a b) a c e hs env r.0 r.2 (λ x. not (holds (items_of r.1) x)) (rest-items a b env r.0 r.1 r.2 r.3 p) says,
      (
        m.0.0,
        picked-met y (ex2 false Op2.Minus a b) a c e hs env r.0 r.2 (λ x. not (holds (items_of r.1) x)) (rest-items a b env r.0 r.1 r.2 r.3 p) says m.1
            (λ u. ((tt, (meets-behind y u b env s.0.1.0 m.0.1.0, tt)), tt)),
      ),
    ))
generate-answer g (comp_ex e (from (name_pat y) (fun1 false Fun.ToSet a) hs)) s env t i = when-so (is_strict (type_of a g)) _ (comp_ex e (from (name_pat y) (fun1 false Fun.ToSet a) hs)) env
    (λ q m. let z = strict-items (meaning a env) (λ v j. strictly-of env.positions env.types (type_of a g) v q (λ k l. s.1.0 k l env t v j)) in
    (same-items y (fun1 false Fun.ToSet a) a e hs env z, (m.0.0, same-met (meaning (fun1 false Fun.ToSet a) env) (meaning a env) (λ u. MeetsGens hs (behind y u env) (λ here. Meets e here)) z m.1)))
generate-answer g (comp_ex e (from (name_pat y) (fun1 false Fun.Parts a) hs)) s env t i = when-so (is_strict (type_of a g)) _ (comp_ex e (from (name_pat y) (fun1 false Fun.Parts a) hs)) env
    (λ q m. let z = parts-items (meaning a env) (λ v j. strictly-of env.positions env.types (type_of a g) v q (λ k l. s.1.0 k l env t v j)) in
    (same-items y (fun1 false Fun.Parts a) a e hs env z, (m.0.0, same-met (meaning (fun1 false Fun.Parts a) env) (meaning a env) (λ u. MeetsGens hs (behind y u env) (λ here. Meets e here)) z m.1)))
generate-answer g _ s env t i = tt

-- Generators over sets made of others.
pub generate-keeps : GenerateKeeps
generate-keeps g e f q s env t i = fires (generate g e) e f env (generate-answer g e s env t i) q
