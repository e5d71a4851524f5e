-- The rule of `=` between records keeps what it rewrites.
use Rattle.std.proofs.Common.{◌≡◌, refl, sym, ap, ◌∙◌, Bool, true, false, ◌&&◌, ◌||◌, not, if◌then◌else◌, List, [], ◌∷◌, Option, Some}
use Rattle.std.specs.Prelude.{IsTrue}
use Rattle.std.specs.Ordering.{is_eq, ordering_then}
use Rattle.std.proofs.lemmas.Cmp.{tied_itself}
use Rattle.ess_semantics.specs.declared.words.Op2.{Op2}
use Rattle.ess_semantics.specs.Lists.{or_default}
use Rattle.ess_semantics.specs.Values.{Text, a_record, Value, truth, node, Values, nil, cons, to_list}
use Rattle.ess_semantics.specs.Order.{order, orders, order_texts, same, same_text, same_texts}
use Rattle.ess_semantics.specs.Names.{Names}
use Rattle.ess_semantics.specs.Trees.{to_field, index, Ex, ex2}
use Rattle.ess_semantics.specs.Types.{Ty, Tys, no_tys, more_tys, compound, is_bool}
use Rattle.ess_semantics.specs.Typing.{type_of}
use Rattle.ess_semantics.specs.Typed.{Typed}
use Rattle.ess_semantics.specs.TypeMembers.{is_of, are_of, is_of_type}
use Rattle.ess_semantics.specs.Operators.{field_at, misfit, value_of_node, false_where_undefined}
use Rattle.ess_semantics.specs.Meaning.{Env, TypeEntry, meaning}
use Rattle.ess_semantics.specs.Meets.{Meets}
use Rattle.ess_semantics.proofs.Tests.{and-left, and-right, or-yes}
use Rattle.ess_semantics.proofs.Orders.{texts_exact, texts_total, equal-of}
use Rattle.ess_rules_laws.specs.Rules.{RuleKeepsTypedThere, SoundOperands, OperandsThere}
use Rattle.ess_rules_laws.specs.ComponentRules.{field_of, has_text, are_fields, equal_each, equal_where_fields, equal_fields}
use Rattle.ess_rules_laws.proofs.RuleAnswers.{AnswerKeeps, fires, when-so, both-there}
use Rattle.ess_rules_laws.proofs.Connectives.{binary-means, and-means}
use Rattle.ess_rules_laws.proofs.Agreement.{same_text-equal, same_text-itself}
use Rattle.ess_rules_laws.proofs.ComponentRules.{then-equal, of-mark}

-- The field of a record.
field-means : (t : Ty) (f : Text) (a : Ex) (env : Env) (fs : List Text) (vs : Values) (v : Value) → meaning a env ≡ Some (node (a_record fs) vs) → field_at fs vs f ≡ Some v → is_of_type t env v ≡ true →
    meaning (field_of t f a) env ≡ Some v
field-means t f a env fs vs v q c h =
    ap (λ o. false_where_undefined (is_bool (Some t)) (value_of_node (index (to_field f ∷ [])) (o ∷ []))) q
    ∙ ap (λ o. false_where_undefined (is_bool (Some t)) (Some (or_default o misfit))) c ∙ of-mark env.positions env.types t v h

-- The fields behind the first one.
behind-first : (gs : List Text) (ws : Values) (f : Text) (fs : List Text) (v : Value) (vs : Values) → not (has_text fs f) ≡ true →
    ((a : Text) → has_text (f ∷ fs) a ≡ true → field_at gs ws a ≡ field_at (f ∷ fs) (cons v vs) a) → (a : Text) → has_text fs a ≡ true → field_at gs ws a ≡ field_at fs vs a
behind-first gs ws f fs v vs n h a q = h a (ap (λ b. same_text f a || b) q ∙ or-yes (same_text f a)) ∙ go (same_text f a) refl
  where
    go : (b : Bool) → same_text f a ≡ b → (if b then Some v else field_at fs vs a) ≡ field_at fs vs a
    go true r = let e : has_text fs f ≡ true = ap (has_text fs) (same_text-equal f a r) ∙ q in cc
    go false r = refl

-- The first one.
first-field : (gs : List Text) (ws : Values) (f : Text) (fs : List Text) (v : Value) (vs : Values) →
    ((a : Text) → has_text (f ∷ fs) a ≡ true → field_at gs ws a ≡ field_at (f ∷ fs) (cons v vs) a) → field_at gs ws f ≡ Some v
first-field gs ws f fs v vs h = h f (ap (λ b. b || has_text fs f) (same_text-itself f)) ∙ ap (λ b. if b then Some v else field_at fs vs f) (same_text-itself f)

module _ (a b : Ex) (env : Env) (gs : List Text) (xs ys : Values) (p : meaning a env ≡ Some (node (a_record gs) xs)) (q : meaning b env ≡ Some (node (a_record gs) ys)) where
  each-equal : (fs : List Text) (ts us : Tys) (vs ws : Values) → are_fields fs ts us ≡ true → are_of env.positions env.types ts (to_list vs) ≡ true → are_of env.positions env.types us (to_list ws) ≡ true →
      ((c : Text) → has_text fs c ≡ true → field_at gs xs c ≡ field_at fs vs c) → ((c : Text) → has_text fs c ≡ true → field_at gs ys c ≡ field_at fs ws c) →
      meaning (equal_each fs ts us a b) env ≡ Some (truth (is_eq (orders vs ws)))
  each-equal [] no_tys no_tys nil nil d h i f g = refl
  each-equal (c ∷ fs) (more_tys t ts) (more_tys u us) (cons v vs) (cons w ws) d h i f g =
      and-means env (ex2 true Op2.Eq (field_of t c a) (field_of u c b)) (equal_each fs ts us a b) (same v w) (is_eq (orders vs ws))
      (binary-means env true Op2.Eq (field_of t c a) (field_of u c b) v w
      (field-means t c a env gs xs v p (first-field gs xs c fs v vs f) (and-left _ _ h)) (field-means u c b env gs ys w q (first-field gs ys c fs w ws g) (and-left _ _ i)))
      (each-equal fs ts us vs ws (and-right _ _ d) (and-right _ _ h) (and-right _ _ i) (behind-first gs xs c fs v vs (and-left _ _ d) f) (behind-first gs ys c fs w ws (and-left _ _ d) g))
      ∙ ap (λ z. Some (truth z)) (sym (then-equal (order v w) (orders vs ws)))
  each-equal _ _ _ _ _ d h i f g = cc

-- The structures of the equations are met.
each-met : (fs : List Text) (ts us : Tys) (a b : Ex) (env : Env) → Meets a env → Meets b env → Meets (equal_each fs ts us a b) env
each-met (f ∷ fs) (more_tys t ts) (more_tys u us) a b env m h = (((m, tt), ((h, tt), tt)), λ z. (each-met fs ts us a b env m h, tt))
each-met _ _ _ a b env m h = tt

-- A value of a type of records.
pub record-value : (p : Bool) (es : List TypeEntry) (fs : List Text) (ts : Tys) (v : Value) → is_of p es (compound (a_record fs) ts) v ≡ true →
    (vs : Values) × (v ≡ node (a_record fs) vs) × (are_of p es ts (to_list vs) ≡ true)
record-value p es fs ts (node (a_record gs) vs) h =
    (vs, ap (λ l. node (a_record l) vs) (sym (texts_exact fs gs (equal-of (order_texts fs gs) (and-left _ _ h)))), and-right _ _ h)
record-value p es fs ts _ h = cc

-- Records with the same fields.
same-record : (fs : List Text) (vs ws : Values) → same (node (a_record fs) vs) (node (a_record fs) ws) ≡ is_eq (orders vs ws)
same-record fs vs ws = ap (λ o. is_eq (ordering_then o (orders vs ws))) (tied_itself texts_total fs)

where-answer : (t u : Option Ty) (a b : Ex) (env : Env) (v w : Value) → meaning a env ≡ Some v → meaning b env ≡ Some w →
    ((s : Ty) → t ≡ Some s → IsTrue (is_of_type s env v)) → ((s : Ty) → u ≡ Some s → IsTrue (is_of_type s env w)) →
    AnswerKeeps (equal_where_fields t u a b) (ex2 true Op2.Eq a b) env
where-answer (Some (compound (a_record fs) ts)) (Some (compound (a_record gs) us)) a b env v w p q f g = when-so (same_texts fs gs && are_fields fs ts us) (equal_each fs ts us a b) (ex2 true Op2.Eq a b) env
    (λ c m. (
      let l : fs ≡ gs = texts_exact fs gs (equal-of (order_texts fs gs) (and-left _ _ c)) in
          let r = record-value env.positions env.types fs ts v (f (compound (a_record fs) ts) refl) in
          let s = record-value env.positions env.types gs us w (g (compound (a_record gs) us) refl) in
          let k : w ≡ node (a_record fs) s.0 = s.1 ∙ ap (λ z. node (a_record z) s.0) (sym l) in
          binary-means env true Op2.Eq a b v w p q ∙ ap (λ z. Some (truth (same z w))) r.1 ∙ ap (λ z. Some (truth (same (node (a_record fs) r.0) z))) k
          ∙ ap (λ z. Some (truth z)) (same-record fs r.0 s.0)
          ∙ sym (each-equal a b env fs r.0 s.0 (p ∙ ap Some r.1) (q ∙ ap Some k) fs ts us r.0 s.0 (and-right _ _ c) r.2 s.2 (λ z y. refl) (λ z y. refl)),
      each-met fs ts us a b env m.0 m.1.0,
    ))
where-answer _ _ a b env v w p q f g = tt

fields-answer : (g : Names Ty) (x : Text) (e : Ex) → SoundOperands g e → (env : Env) → Typed g env → OperandsThere e env → AnswerKeeps (equal_fields g x e) e env
fields-answer g x (ex2 true Op2.Eq a b) s env t h = let r = both-there (meaning a env) (meaning b env) h in
    where-answer (type_of a g) (type_of b g) a b env r.0 r.1 r.2 r.3 (λ y p. s.0 y p env t r.0 r.2) (λ y p. s.1.0 y p env t r.1 r.3)
fields-answer g x _ s env t h = tt

-- `=` of records.
pub equal_fields-keeps : RuleKeepsTypedThere equal_fields
equal_fields-keeps g x e f q o s env t h = fires (equal_fields g x e) e f env (fields-answer g x e s env t h) q
