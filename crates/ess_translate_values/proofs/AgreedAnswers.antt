-- The value on which answers agree, as code finds it: the first one, where each of the others is the same.
use Rattle.std.proofs.Common.{◌≡◌, refl, sym, ap, ◌∙◌, ℕ, ◌+◌, ◌<◌, ◌≤◌, true, false, ◌&&◌, List, [], ◌∷◌, map, length, drop, get_or, Option, Some, None, option_map}
use Rattle.std.specs.List.{list_all}
use Rattle.std.proofs.lemmas.List.{at_drop_more, at_drop_all}
use Rattle.ess_semantics.specs.Lists.{and_then, when}
use Rattle.ess_semantics.specs.Values.{Value}
use Rattle.ess_semantics.specs.Plans.{same_value}
use Rattle.ess_core.specs.declared.values.Val.{Val}
use Rattle.ess_core.specs.ValueViews.{pure_val}
use Rattle.ess_translate_values_laws.specs.CommonValues.{agreed}

-- The answers as values.
abbrev pub values : List (Option Val) → List (Option Value)
values os = map (option_map pure_val) os

pub agreed_none : (os : List (Option Val)) → length os ≡ 0 → None ≡ agreed (values os)
agreed_none [] h = refl
agreed_none (o ∷ os) h = cc

module _ (os rest : List (Option Val)) (o e : Option Val) (h : length os ≡ 0 → ⊥) (is : o ≡ get_or os 0 e) (others : rest ≡ drop 1 os) where
  agreed-first : agreed (values os) ≡ and_then (option_map pure_val o) (λ v. when (list_all (same_value v) (values rest)) v)
  agreed-first = go os h is others
    where
      go : (os : List (Option Val)) → (length os ≡ 0 → ⊥) → o ≡ get_or os 0 e → rest ≡ drop 1 os →
          agreed (values os) ≡ and_then (option_map pure_val o) (λ v. when (list_all (same_value v) (values rest)) v)
      go [] h is others = absurd (h refl)
      go (p ∷ ps) h is others =
          ap (λ q. and_then (option_map pure_val q) (λ v. when (list_all (same_value v) (values ps)) v)) (sym is)
          ∙ ap (λ l. and_then (option_map pure_val o) (λ v. when (list_all (same_value v) (values l)) v)) (sym others)

  pub agreed_all : (v w : Val) → o ≡ Some v → true ≡ list_all (same_value (pure_val v)) (values rest) → pure_val w ≡ pure_val v →
      Some (pure_val w) ≡ agreed (values os)
  agreed_all v w q b p =
      ap (λ x. Some x) p ∙ ap (λ b. when b (pure_val v)) b
      ∙ sym (agreed-first ∙ ap (λ u. and_then (option_map pure_val u) (λ v. when (list_all (same_value v) (values rest)) v)) q)

  pub agreed_not : (v : Val) → o ≡ Some v → false ≡ list_all (same_value (pure_val v)) (values rest) → None ≡ agreed (values os)
  agreed_not v q b =
      ap (λ b. when b (pure_val v)) b
      ∙ sym (agreed-first ∙ ap (λ u. and_then (option_map pure_val u) (λ v. when (list_all (same_value v) (values rest)) v)) q)

  pub agreed_lacks : o ≡ None → None ≡ agreed (values os)
  agreed_lacks q = sym (agreed-first ∙ ap (λ u. and_then (option_map pure_val u) (λ v. when (list_all (same_value v) (values rest)) v)) q)

-- ---- each of several

-- What is left of the test behind the first i answers is the whole test.
pub record SameSoFar (v : Value) (os : List (Option Val)) (i : ℕ) : Type 0 where
  pub so_far : list_all (same_value v) (values os) ≡ list_all (same_value v) (values (drop i os))

pub each_none : (v : Value) (os : List (Option Val)) → SameSoFar v os 0
each_none v os = record { so_far = refl }

next : (v : Value) (os : List (Option Val)) (i : ℕ) (o e : Option Val) → i < length os → o ≡ get_or os i e → SameSoFar v os i →
    list_all (same_value v) (values os) ≡ same_value v (option_map pure_val o) && list_all (same_value v) (values (drop (i + 1) os))
next v os i o e h is s =
    s.so_far ∙ at_drop_more (λ l. list_all (same_value v) (values l)) os i e h
    ∙ ap (λ q. same_value v (option_map pure_val q) && list_all (same_value v) (values (drop (i + 1) os))) (sym is)

pub each_more : (v : Value) (os : List (Option Val)) (i : ℕ) (o e : Option Val) → i < length os → o ≡ get_or os i e →
    true ≡ same_value v (option_map pure_val o) → SameSoFar v os i → SameSoFar v os (i + 1)
each_more v os i o e h is b s = record {
  so_far = next v os i o e h is s ∙ ap (λ b. b && list_all (same_value v) (values (drop (i + 1) os))) (sym b);
}

pub each_stop : (v : Value) (os : List (Option Val)) (i : ℕ) (o e : Option Val) → i < length os → o ≡ get_or os i e →
    false ≡ same_value v (option_map pure_val o) → SameSoFar v os i → false ≡ list_all (same_value v) (map (option_map pure_val) os)
each_stop v os i o e h is b s = sym (next v os i o e h is s ∙ ap (λ b. b && list_all (same_value v) (values (drop (i + 1) os))) (sym b))

pub each_all : (v : Value) (os : List (Option Val)) (i : ℕ) → length os ≤ i → SameSoFar v os i →
    true ≡ list_all (same_value v) (map (option_map pure_val) os)
each_all v os i h s = sym (s.so_far ∙ at_drop_all (λ l. list_all (same_value v) (values l)) os i h)
