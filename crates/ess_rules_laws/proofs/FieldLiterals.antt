-- The rule of a field of a record literal keeps what it rewrites.
use Rattle.std.proofs.Common.{◌≡◌, refl, sym, ap, ◌∙◌, subst, Bool, true, false, List, [], ◌∷◌, map, Option, Some, None, if◌then◌else◌}
use Rattle.std.specs.Prelude.{IsTrue, is_some}
use Rattle.std.specs.List.{list_all}
use Rattle.std.specs.Ordering.{is_eq}
use Rattle.std.specs.declared.cmp.Ordering.{Ordering}
use Rattle.std.specs.declared.cmp.Ordering.TheVariants.{Less, Equal, Greater}
use Rattle.ess_semantics.specs.Lists.{and_then, or_default, zip}
use Rattle.ess_semantics.specs.Values.{Text, Value, of_list}
use Rattle.ess_semantics.specs.Order.{same_text, order_text}
use Rattle.ess_semantics.specs.Names.{Names, look, keys, insert_by, insert_name, by_name}
use Rattle.ess_semantics.specs.Trees.{to_field, index, record_literal, Ex, Exs, node_ex, no_exs, more_exs}
use Rattle.ess_semantics.specs.Operators.{misfit, field_at, value_of_node, value_of_op, false_where_undefined}
use Rattle.ess_semantics.specs.Meaning.{Env, meaning, meanings}
use Rattle.ess_semantics.specs.Meets.{Meets, MeetsAll}
use Rattle.ess_rules_laws.specs.Rules.{RuleKeepsWhere}
use Rattle.ess_rules_laws.specs.LiteralRules.{FitsMark}
use Rattle.ess_rules_laws.specs.FieldLiterals.{field_term, field_listed, FieldFits}
use Rattle.ess_rules_laws.proofs.RuleAnswers.{AnswerKeeps, fires}
use Rattle.ess_rules_laws.proofs.Agreement.{same_text-equal, same_text-itself}
use Rattle.ess_rules_laws.proofs.MembershipRules.{values, all-there}
use Rattle.ess_rules_laws.proofs.LiteralRules.{first-value, read-mark}

-- ---- maps in the order of names

-- A field's value is what the map has for its name.
field-look : (bs : Names Value) (a : Text) → field_at (keys bs) (of_list (map (λ b. b.1) bs)) a ≡ look bs a
field-look [] a = refl
field-look (b ∷ bs) a = ap (λ o. if same_text b.0 a then Some b.1 else o) (field-look bs a)

look-insert : (b : Text × Value) (cs : Names Value) (a : Text) → look (insert_name b cs) a ≡ (if same_text b.0 a then Some b.1 else look cs a)
look-insert b [] a = refl
look-insert b (c ∷ cs) a = go (order_text b.0 c.0) refl (look-insert b cs a)
  where
    both : order_text b.0 c.0 ≡ Greater → (s t : Bool) → same_text b.0 a ≡ s → same_text c.0 a ≡ t →
        (if t then Some c.1 else (if s then Some b.1 else look cs a)) ≡ (if s then Some b.1 else (if t then Some c.1 else look cs a))
    both q true true i j = absurd (let e : false ≡ true = sym (ap is_eq q) ∙ ap (λ z. same_text z c.0) (same_text-equal b.0 a i ∙ sym (same_text-equal c.0 a j)) ∙ same_text-itself c.0 in cc)
    both q true false i j = refl
    both q false true i j = refl
    both q false false i j = refl

    go : (o : Ordering) → order_text b.0 c.0 ≡ o → look (insert_name b cs) a ≡ (if same_text b.0 a then Some b.1 else look cs a) →
        look (insert_by o b c cs (insert_name b cs)) a ≡ (if same_text b.0 a then Some b.1 else (if same_text c.0 a then Some c.1 else look cs a))
    go Less q h = refl
    go Equal q h = refl
    go Greater q h = ap (λ o. if same_text c.0 a then Some c.1 else o) h ∙ both q (same_text b.0 a) (same_text c.0 a) refl refl

look-sorted : (bs : Names Value) (a : Text) → look (by_name bs) a ≡ look bs a
look-sorted [] a = refl
look-sorted (b ∷ bs) a = look-insert b (by_name bs) a ∙ ap (λ o. if same_text b.0 a then Some b.1 else o) (look-sorted bs a)

-- ---- a field of a record

term-means : (fs : List Text) (es : Exs) (a : Text) (e : Ex) (env : Env) → field_term fs es a ≡ Some e → IsTrue (list_all is_some (meanings es env)) →
    (v : Value) × (meaning e env ≡ Some v) × (look (zip fs (values (meanings es env))) a ≡ Some v)
term-means [] es a e env q t = cc
term-means (f ∷ fs) no_exs a e env q t = cc
term-means (f ∷ fs) (more_exs d es) a e env q t = let r = first-value (meaning d env) (meanings es env) t in go r.0 r.1 (same_text f a) refl q (λ p. term-means fs es a e env p r.2)
  where
    meaning-of : Option Ex → Option Value
    meaning-of None = None
    meaning-of (Some e) = meaning e env

    go : (u : Value) → meaning d env ≡ Some u → (s : Bool) → same_text f a ≡ s → (if s then Some d else field_term fs es a) ≡ Some e →
        (field_term fs es a ≡ Some e → (v : Value) × (meaning e env ≡ Some v) × (look (zip fs (values (meanings es env))) a ≡ Some v)) →
        (v : Value) × (meaning e env ≡ Some v) × (look (zip (f ∷ fs) (values (meaning d env ∷ meanings es env))) a ≡ Some v)
    go u j true i q r = (u, ap meaning-of (sym q) ∙ j, ap (λ o. look (zip (f ∷ fs) (values (o ∷ meanings es env))) a) j ∙ ap (λ s. if s then Some u else look (zip fs (values (meanings es env))) a) i)
    go u j false i q r = let w = r q in
        (w.0, w.1, ap (λ o. look (zip (f ∷ fs) (values (o ∷ meanings es env))) a) j ∙ ap (λ s. if s then Some u else look (zip fs (values (meanings es env))) a) i ∙ w.2)

term-met : (fs : List Text) (es : Exs) (a : Text) (env : Env) → MeetsAll false es env → (e : Ex) → field_term fs es a ≡ Some e → Meets e env
term-met [] es a env m e q = cc
term-met (f ∷ fs) no_exs a env m e q = cc
term-met (f ∷ fs) (more_exs d es) a env m e q = go (same_text f a) q (λ p. term-met fs es a env m.1 e p)
  where
    MetIn : Option Ex → Type 0
    MetIn None = Unit {0}
    MetIn (Some e) = Meets e env

    go : (s : Bool) → (if s then Some d else field_term fs es a) ≡ Some e → (field_term fs es a ≡ Some e → Meets e env) → Meets e env
    go true q r = subst MetIn q m.0
    go false q r = r q

field-answer : (e : Ex) (env : Env) → FieldFits e env → AnswerKeeps (field_listed e) e env
field-answer (node_ex b (index (to_field a ∷ [])) (more_exs (node_ex false (record_literal fs) es) no_exs)) env t = go (field_term fs es a) refl t.1
  where
    go : (o : Option Ex) → field_term fs es a ≡ o → FitsMark b o env → AnswerKeeps o (node_ex b (index (to_field a ∷ [])) (more_exs (node_ex false (record_literal fs) es) no_exs)) env
    go None q f = tt
    go (Some e) q f = λ m. (
      let r = term-means fs es a e env q t.0 in let bs = zip fs (values (meanings es env)) in
          ap (λ o. false_where_undefined b (value_of_node (index (to_field a ∷ [])) (and_then o (value_of_op (record_literal fs)) ∷ []))) (all-there (meanings es env) t.0)
          ∙ ap (λ o. false_where_undefined b (Some (or_default o misfit))) (field-look (by_name bs) a ∙ look-sorted bs a ∙ r.2) ∙ read-mark b e env r.0 f r.1 ∙ sym r.1,
      term-met fs es a env m.0 e q,
    )
field-answer _ env t = tt

-- A field of a record literal.
pub field_listed-keeps : RuleKeepsWhere FieldFits field_listed
field_listed-keeps e f q env t = fires (field_listed e) e f env (field-answer e env t) q
