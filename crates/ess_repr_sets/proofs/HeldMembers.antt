-- Members in slots with dummies: the dummy, and one slot after the other.
use Rattle.std.proofs.Common.{◌≡◌, refl, sym, ap, ◌∙◌, ℕ, ◌+◌, ◌<◌, ◌≤◌, List, [], ◌∷◌, ◌++◌, map, length, drop, get_or, ℤ, pos, ◌+ℤ◌, Option, Some, None, option_map}
use Rattle.std.proofs.lemmas.List.{at_drop_more, drop_all, append_assoc}
use Rattle.ess_semantics.specs.Lists.{and_then, each_of, append_all}
use Rattle.ess_semantics.specs.Values.{Value}
use Rattle.ess_semantics.specs.Collections.{set_of}
use Rattle.ess_semantics.specs.Domains.{Domain, integers}
use Rattle.ess_semantics.specs.SetLayers.{dummy_of, but_dummy}
use Rattle.ess_core.specs.declared.values.Val.{Val}
use Rattle.ess_core.specs.ValueViews.{pure_val}
use Rattle.ess_eval_domains.specs.declared.closed.Span.{Span}
use Rattle.ess_eval_domains.specs.ClosedViews.{pure_span}

-- A single range has a dummy where it has an upper bound.
pub only_span : (ss : List Span) (d : Span) → length ss ≡ 1 → dummy_of (integers (map pure_span ss)) ≡ option_map (λ b. b +ℤ pos 1) (get_or ss 0 d).high
only_span [] d h = cc
only_span (s ∷ []) d h = refl
only_span (s ∷ t ∷ ss) d h = cc

-- Other ranges have none.
pub other_spans : (ss : List Span) → (length ss ≡ 1 → ⊥) → None ≡ dummy_of (integers (map pure_span ss))
other_spans [] h = refl
other_spans (s ∷ []) h = absurd (h refl)
other_spans (s ∷ t ∷ ss) h = refl

-- ---- one slot after the other

-- What is left of the slots, behind the members that are held already.
abbrev pub Left : (ℤ → Option (List Value)) → List ℤ → List Val → ℕ → Type 0
Left f ns held i = option_map append_all (each_of ns f) ≡ option_map (λ l. map pure_val held ++ l) (option_map append_all (each_of (drop i ns) f))

with-none : {A : Type 0} (xs : List A) → xs ++ [] ≡ xs
with-none [] = refl
with-none (x ∷ xs) = ap (λ l. x ∷ l) (with-none xs)

next-slot : (f : ℤ → Option (List Value)) (ns : List ℤ) (held : List Val) (i : ℕ) (n : ℤ) → i < length ns → n ≡ get_or ns i n → Left f ns held i →
    option_map append_all (each_of ns f) ≡ option_map (λ l. map pure_val held ++ l) (option_map append_all (and_then (f n) (λ y. option_map (λ ys. y ∷ ys) (each_of (drop (i + 1) ns) f))))
next-slot f ns held i n h e l =
    l ∙ ap (λ q. option_map (λ l. map pure_val held ++ l) (option_map append_all q))
    (at_drop_more (λ l. each_of l f) ns i n h ∙ ap (λ x. and_then (f x) (λ y. option_map (λ ys. y ∷ ys) (each_of (drop (i + 1) ns) f))) (sym e))

-- A slot that holds a member, or the dummy.
pub held_next : (f : ℤ → Option (List Value)) (ns : List ℤ) (held new : List Val) (i : ℕ) (n : ℤ) → i < length ns → n ≡ get_or ns i n →
    option_map (λ l. map pure_val held ++ l) (f n) ≡ Some (map pure_val new) → Left f ns held i → Left f ns new (i + 1)
held_next f ns held new i n h e p l = next-slot f ns held i n h e l ∙ go (f n) p (each_of (drop (i + 1) ns) f)
  where
    go : (o : Option (List Value)) → option_map (λ l. map pure_val held ++ l) o ≡ Some (map pure_val new) → (q : Option (List (List Value))) →
        option_map (λ l. map pure_val held ++ l) (option_map append_all (and_then o (λ y. option_map (λ ys. y ∷ ys) q))) ≡ option_map (λ l. map pure_val new ++ l) (option_map append_all q)
    go None p q = cc
    go (Some y) p None = refl
    go (Some y) p (Some ys) =
        let z : map pure_val held ++ y ≡ map pure_val new = cc in
        ap Some (sym (append_assoc (map pure_val held) y (append_all ys)) ∙ ap (λ l. l ++ append_all ys) z)

-- A slot that stands for nothing.
pub held_wrong : (f : ℤ → Option (List Value)) (ns : List ℤ) (held : List Val) (i : ℕ) (n : ℤ) → i < length ns → n ≡ get_or ns i n →
    option_map (λ l. map pure_val held ++ l) (f n) ≡ None → Left f ns held i → None ≡ option_map append_all (each_of ns f)
held_wrong f ns held i n h e p l = sym (next-slot f ns held i n h e l ∙ go (f n) p (each_of (drop (i + 1) ns) f))
  where
    go : (o : Option (List Value)) → option_map (λ l. map pure_val held ++ l) o ≡ None → (q : Option (List (List Value))) →
        option_map (λ l. map pure_val held ++ l) (option_map append_all (and_then o (λ y. option_map (λ ys. y ∷ ys) q))) ≡ None
    go None p q = refl
    go (Some y) p q = cc

-- No slot is left.
pub held_end : (f : ℤ → Option (List Value)) (ns : List ℤ) (held : List Val) (i : ℕ) → length ns ≤ i → Left f ns held i → Some (map pure_val held) ≡ option_map append_all (each_of ns f)
held_end f ns held i h l =
    sym (l ∙ ap (λ m. option_map (λ l. map pure_val held ++ l) (option_map append_all (each_of m f))) (drop_all i ns h) ∙ ap Some (with-none (map pure_val held)))

-- ---- the set

module _ (d : Domain) (ns : List ℤ) (q : Option ℤ) (m : ℤ) (dummy : q ≡ Some m) (own : q ≡ dummy_of d) (o : Option (List Val)) (is : option_map (map pure_val) o ≡ option_map append_all (each_of ns (but_dummy d m))) where
  -- The set of the members held.
  pub held_set : (held : List Val) (w : Value) → o ≡ Some held → w ≡ set_of (map pure_val held) →
      Some w ≡ and_then (dummy_of d) (λ m. option_map (λ ls. set_of (append_all ls)) (each_of ns (but_dummy d m)))
  held_set held w e p =
      ap Some p ∙ go (each_of ns (but_dummy d m)) (ap (option_map (map pure_val)) (sym e) ∙ is)
      ∙ ap (λ x. and_then x (λ m. option_map (λ ls. set_of (append_all ls)) (each_of ns (but_dummy d m)))) (sym dummy ∙ own)
    where
      go : (x : Option (List (List Value))) → Some (map pure_val held) ≡ option_map append_all x → Some (set_of (map pure_val held)) ≡ option_map (λ ls. set_of (append_all ls)) x
      go None e = cc
      go (Some ls) e = let z : map pure_val held ≡ append_all ls = cc in ap (λ l. Some (set_of l)) z

  -- There is none where a slot stands for nothing.
  pub held_none : o ≡ None → None ≡ and_then (dummy_of d) (λ m. option_map (λ ls. set_of (append_all ls)) (each_of ns (but_dummy d m)))
  held_none e =
      go (each_of ns (but_dummy d m)) (ap (option_map (map pure_val)) (sym e) ∙ is)
      ∙ ap (λ x. and_then x (λ m. option_map (λ ls. set_of (append_all ls)) (each_of ns (but_dummy d m)))) (sym dummy ∙ own)
    where
      go : (x : Option (List (List Value))) → None ≡ option_map append_all x → None ≡ option_map (λ ls. set_of (append_all ls)) x
      go None e = refl
      go (Some ls) e = cc
