-- The rule of equality by the numbers of items keeps what it rewrites.
use Rattle.std.proofs.Common.{◌≡◌, refl, sym, ap, ◌∙◌, Bool, true, false, if◌then◌else◌, Option, Some, None, option_map}
use Rattle.std.specs.Prelude.{IsTrue}
use Rattle.ess_semantics.specs.declared.words.Op2.{Op2}
use Rattle.ess_semantics.specs.Lists.{and_then, or_else}
use Rattle.ess_semantics.specs.Values.{a_matrix, Value, truth}
use Rattle.ess_semantics.specs.Order.{same_text}
use Rattle.ess_semantics.specs.Names.{Names}
use Rattle.ess_semantics.specs.Trees.{Ex, comp_ex, Dom, ex2}
use Rattle.ess_semantics.specs.Types.{Ty, compound2}
use Rattle.ess_semantics.specs.Typing.{type_of}
use Rattle.ess_semantics.specs.TypeMembers.{is_of_type}
use Rattle.ess_semantics.specs.Meaning.{Env, meaning}
use Rattle.ess_rules_laws.specs.Rules.{Unused}
use Rattle.ess_rules_laws.specs.FoldRules.{is_laid_open}
use Rattle.ess_rules_laws.specs.MatrixRules.{both_matrices}
use Rattle.ess_rules_laws.proofs.Connectives.{binary-means}
use Rattle.ess_rules_laws.proofs.RuleAnswers.{AnswerKeeps, fires, both-there}
use Rattle.ess_rules_laws.proofs.Unordered.{same-turned}
use Rattle.ess_rules_laws.proofs.MatrixItems.{MatrixOf, matrix-value}
use Rattle.ess_refine_laws.specs.AllRules.{Supply, OfSome}
use Rattle.ess_ordered_laws.specs.ToldAxes.{told_axis}
use Rattle.ess_numbered_laws.specs.CountedSources.{counted_list}
use Rattle.ess_numbered_laws.specs.EqualByNumber.{other_side, equal_as, equal_counted, equal_by_number}
use Rattle.ess_numbered_laws.specs.Bounds.{IsBound}
use Rattle.ess_numbered_laws.specs.CountedLaws.{OtherAsks, CountedAsks, EqualAsks, EqualitiesKeep}
use Rattle.ess_numbered_laws.proofs.EqualNumbers.{lists-mean, lists-met, over-mean, over-met}

-- What has no domain is a list.
laid-open : (b : Ex) → other_side b ≡ Some None → is_laid_open b ≡ true
laid-open b q = go (is_laid_open b) (told_axis b) q
  where
    go : (c : Bool) (p : Option Dom) → (if c then Some None else option_map Some p) ≡ Some None → c ≡ true
    go true p q = refl
    go false None q = cc
    go false (Some d) q = cc

-- ---- one side

counted-answer : (s : Supply) (g : Names Ty) (a b : Ex) (env : Env) → same_text s.other s.one ≡ false → Unused s.one a → Unused s.one b
    → (v w : Value) → meaning a env ≡ Some v → meaning b env ≡ Some w
    → ((y : Ty) → type_of a g ≡ Some y → IsTrue (is_of_type y env v)) → ((y : Ty) → type_of b g ≡ Some y → IsTrue (is_of_type y env w))
    → CountedAsks s g a b env → AnswerKeeps (equal_counted s g a b) (ex2 true Op2.Eq a b) env
counted-answer s g (comp_ex e gs) b env apart new-a new-b v w j k f h c =
    go (counted_list s g (comp_ex e gs)) (other_side b) refl (type_of (comp_ex e gs) g) (type_of b g) f h c
  where
    go : (p : Option Ex) (o : Option (Option Dom)) → other_side b ≡ o → (t u : Option Ty)
        → ((y : Ty) → t ≡ Some y → IsTrue (is_of_type y env v)) → ((y : Ty) → u ≡ Some y → IsTrue (is_of_type y env w))
        → OfSome p (λ n. IsBound n (comp_ex e gs) env × OtherAsks s.one o b env)
        → AnswerKeeps (and_then p (λ n. and_then o (λ o. both_matrices t u (equal_as o s.one s.other n (comp_ex e gs) b))))
        (ex2 true Op2.Eq (comp_ex e gs) b) env
    go None o q t u f h c = tt
    go (Some n) None q t u f h c = tt
    go (Some n) (Some None) q (Some (compound2 a_matrix i t)) (Some (compound2 a_matrix l u)) f h c =
        let m : MatrixOf env.positions env.types t v = matrix-value env.positions env.types i t v (f (compound2 a_matrix i t) refl) in
        let o : MatrixOf env.positions env.types u w = matrix-value env.positions env.types l u w (h (compound2 a_matrix l u) refl) in
        λ z. (
          lists-mean s.one s.other n t u (comp_ex e gs) b env v w new-a new-b j k m o refl c.0 z.0 z.1.0 (laid-open b q),
          lists-met s.one s.other n t u (comp_ex e gs) b env v w new-a new-b j k m o refl c.0 z.0 z.1.0,
        )
    go (Some n) (Some None) q _ _ f h c = tt
    go (Some n) (Some (Some d)) q (Some (compound2 a_matrix i t)) (Some (compound2 a_matrix l u)) f h c =
        let m : MatrixOf env.positions env.types t v = matrix-value env.positions env.types i t v (f (compound2 a_matrix i t) refl) in
        let o : MatrixOf env.positions env.types u w = matrix-value env.positions env.types l u w (h (compound2 a_matrix l u) refl) in
        λ z. (
          over-mean s.one s.other n t u (comp_ex e gs) b env v w new-a new-b j k m o refl c.0 z.0 z.1.0 apart d c.1.1 c.1.0,
          over-met s.one s.other n t u (comp_ex e gs) b env v w new-a new-b j k m o refl c.0 z.0 z.1.0 apart d c.1.1 c.1.0,
        )
    go (Some n) (Some (Some d)) q _ _ f h c = tt
counted-answer s g _ b env apart new-a new-b v w j k f h c = tt

-- ---- either side

-- What keeps the equality turned keeps it.
turned-answer : (a b : Ex) (env : Env) (v w : Value) → meaning a env ≡ Some v → meaning b env ≡ Some w → (o : Option Ex)
    → AnswerKeeps o (ex2 true Op2.Eq b a) env → AnswerKeeps o (ex2 true Op2.Eq a b) env
turned-answer a b env v w j k None h = tt
turned-answer a b env v w j k (Some f) h = λ m. let r = h (m.1.0, (m.0, tt)) in (
  binary-means env true Op2.Eq a b v w j k ∙ ap (λ c. Some (truth c)) (same-turned v w)
      ∙ sym (binary-means env true Op2.Eq b a w v k j) ∙ r.0,
  r.1,
)

or-answer : (o p : Option Ex) (e : Ex) (env : Env) → AnswerKeeps o e env → AnswerKeeps p e env → AnswerKeeps (or_else o p) e env
or-answer None p e env h k = k
or-answer (Some f) p e env h k = h

equal-answer : (s : Supply) (g : Names Ty) (e : Ex) (env : Env) → EqualAsks s g e env → AnswerKeeps (equal_by_number s g e) e env
equal-answer s g (ex2 true Op2.Eq a b) env h =
    let r = both-there (meaning a env) (meaning b env) h.4 in
    or-answer (equal_counted s g a b) (equal_counted s g b a) (ex2 true Op2.Eq a b) env
    (counted-answer s g a b env h.0 h.1.0 h.1.1.0 r.0 r.1 r.2 r.3 (λ y p. h.2.0 y p env h.3 r.0 r.2) (λ y p. h.2.1.0 y p env h.3 r.1 r.3)
    h.5)
    (turned-answer a b env r.0 r.1 r.2 r.3 (equal_counted s g b a)
    (counted-answer s g b a env h.0 h.1.1.0 h.1.0 r.1 r.0 r.3 r.2 (λ y p. h.2.1.0 y p env h.3 r.1 r.3) (λ y p. h.2.0 y p env h.3 r.0 r.2)
    h.6))
equal-answer s g _ env h = tt

-- So it is kept.
pub equalities-keep : EqualitiesKeep
equalities-keep s g e f q env h = fires (equal_by_number s g e) e f env (equal-answer s g e env h) q
