-- What attributes and ranges denote has the form of their expressions.
use Rattle.std.proofs.Common.{◌≡◌, refl, sym, ap, ◌∙◌, subst, ℕ, Bool, true, false, ◌||◌, not, if◌then◌else◌, List, [], ◌∷◌, ℤ, Option, Some, None, option_map, is_some, IsTrue}
use Rattle.std.specs.List.{list_all, list_any}
use Rattle.ess_semantics.specs.declared.words.Key.{Key}
use Rattle.ess_semantics.specs.Lists.{and_then, or_else}
use Rattle.ess_semantics.specs.Values.{Value}
use Rattle.ess_semantics.specs.Numbers.{natural}
use Rattle.ess_semantics.specs.Trees.{Ends, one_value, both_ends, low_end, high_end, Mark, flag, valued}
use Rattle.ess_semantics.specs.Domains.{Span, Attribute, numbered, flagged, attribute, has, same_key}
use Rattle.ess_semantics.specs.Sizes.{greatest_size}
use Rattle.ess_semantics.specs.Kinds.{has_key}
use Rattle.ess_semantics.specs.DomainJudgements.{bounds_occurrences}
use Rattle.ess_semantics.specs.Meaning.{as_int, with_span, spans_of, attributes_of}
use Rattle.ess_repr_laws.specs.Finite.{OccursBound, is_flag, IsFlagged}
use Rattle.ess_repr_laws.specs.WellFormed.{is_numbered, is_right}
use Rattle.ess_semantics.proofs.Tests.{and-left, and-right, or-yes}
use Rattle.ess_repr_laws.proofs.Rooms.{one-key}
use Rattle.ess_repr_laws.proofs.DomainForms.{Marked, Ranges}

-- ---- marks

-- marks and attributes side by side
abbrev Parallel : List Mark → List Attribute → Type 0
Parallel [] [] = Unit {0}
Parallel (flag k ∷ ms) (flagged l ∷ ks) = (k ≡ l) × Parallel ms ks
Parallel (valued k ∷ ms) (numbered l n ∷ ks) = (k ≡ l) × Parallel ms ks
Parallel _ ks = ⊥

parallel : (ms : List Mark) (os : List (Option Value)) (ks : List Attribute) → attributes_of ms os ≡ Some ks → Parallel ms ks
parallel [] [] ks e = let q : [] ≡ ks = cc in subst (Parallel []) q tt
parallel [] (o ∷ os) ks e = cc
parallel (flag k ∷ ms) os ks e = go (attributes_of ms os) refl e (λ ls q. parallel ms os ls q)
  where
    go : (o : Option (List Attribute)) → attributes_of ms os ≡ o → option_map (λ ks. flagged k ∷ ks) o ≡ Some ks → ((ls : List Attribute) → attributes_of ms os ≡ Some ls → Parallel ms ls) → Parallel (flag k ∷ ms) ks
    go None q e ih = cc
    go (Some ls) q e ih = let w : flagged k ∷ ls ≡ ks = cc in subst (Parallel (flag k ∷ ms)) w (refl, ih ls q)
parallel (valued k ∷ ms) [] ks e = cc
parallel (valued k ∷ ms) (v ∷ os) ks e = go (as_int v) (attributes_of ms os) refl e (λ ls q. parallel ms os ls q)
  where
    go : (i : Option ℤ) (o : Option (List Attribute)) → attributes_of ms os ≡ o → and_then i (λ n. option_map (λ ks. numbered k n ∷ ks) o) ≡ Some ks → ((ls : List Attribute) → attributes_of ms os ≡ Some ls → Parallel ms ls) → Parallel (valued k ∷ ms) ks
    go None o q e ih = cc
    go (Some n) None q e ih = cc
    go (Some n) (Some ls) q e ih = let w : numbered k n ∷ ls ≡ ks = cc in subst (Parallel (valued k ∷ ms)) w (refl, ih ls q)

-- an attribute with a number is there where its mark is
numbered-there : (k : Key) → is_numbered k ≡ true → (ms : List Mark) (ks : List Attribute) → Parallel ms ks → list_all is_right ms ≡ true → has_key k ms ≡ true → IsTrue (is_some (attribute k ks))
numbered-there k n [] ks p r h = cc
numbered-there k n (flag l ∷ ms) [] p r h = absurd p
numbered-there k n (flag l ∷ ms) (numbered j z ∷ ks) p r h = absurd p
numbered-there k n (flag l ∷ ms) (flagged j ∷ ks) p r h = go (same_key k l) refl h (numbered-there k n ms ks p.1 (and-right (not (is_numbered l)) (list_all is_right ms) r))
  where
    go : (b : Bool) → same_key k l ≡ b → b || has_key k ms ≡ true → (has_key k ms ≡ true → IsTrue (is_some (attribute k ks))) → IsTrue (is_some (attribute k ks))
    go true q h ih = let z : false ≡ true = sym (ap not (ap is_numbered (sym (one-key k l q)) ∙ n)) ∙ and-left (not (is_numbered l)) (list_all is_right ms) r in cc
    go false q h ih = ih h
numbered-there k n (valued l ∷ ms) [] p r h = absurd p
numbered-there k n (valued l ∷ ms) (flagged j ∷ ks) p r h = absurd p
numbered-there k n (valued l ∷ ms) (numbered j z ∷ ks) p r h = go (same_key k l) refl h (numbered-there k n ms ks p.1 (and-right (is_numbered l) (list_all is_right ms) r))
  where
    go : (b : Bool) → same_key k l ≡ b → b || has_key k ms ≡ true → (has_key k ms ≡ true → IsTrue (is_some (attribute k ks))) → IsTrue (is_some (if same_key k j then Some (natural z) else attribute k ks))
    go true q h ih = ap (λ c. is_some (if c then Some (natural z) else attribute k ks)) (ap (same_key k) (sym p.0) ∙ q)
    go false q h ih = ap (λ c. is_some (if c then Some (natural z) else attribute k ks)) (ap (same_key k) (sym p.0) ∙ q) ∙ ih h

flagged-there : (k : Key) → is_numbered k ≡ false → (ms : List Mark) (ks : List Attribute) → Parallel ms ks → list_all is_right ms ≡ true → has_key k ms ≡ true → IsFlagged k ks
flagged-there k n [] ks p r h = cc
flagged-there k n (flag l ∷ ms) [] p r h = absurd p
flagged-there k n (flag l ∷ ms) (numbered j z ∷ ks) p r h = absurd p
flagged-there k n (flag l ∷ ms) (flagged j ∷ ks) p r h = go (same_key k l) refl h (flagged-there k n ms ks p.1 (and-right (not (is_numbered l)) (list_all is_right ms) r))
  where
    go : (b : Bool) → same_key k l ≡ b → b || has_key k ms ≡ true → (has_key k ms ≡ true → list_any (is_flag k) ks ≡ true) → same_key k j || list_any (is_flag k) ks ≡ true
    go true q h ih = ap (λ c. c || list_any (is_flag k) ks) (ap (same_key k) (sym p.0) ∙ q)
    go false q h ih = ap (λ c. same_key k j || c) (ih h) ∙ or-yes (same_key k j)
flagged-there k n (valued l ∷ ms) [] p r h = absurd p
flagged-there k n (valued l ∷ ms) (flagged j ∷ ks) p r h = absurd p
flagged-there k n (valued l ∷ ms) (numbered j z ∷ ks) p r h = go (same_key k l) refl h (flagged-there k n ms ks p.1 (and-right (is_numbered l) (list_all is_right ms) r))
  where
    go : (b : Bool) → same_key k l ≡ b → b || has_key k ms ≡ true → (has_key k ms ≡ true → list_any (is_flag k) ks ≡ true) → list_any (is_flag k) ks ≡ true
    go true q h ih = let z : false ≡ true = sym (ap is_numbered (sym (one-key k l q)) ∙ n) ∙ and-left (is_numbered l) (list_all is_right ms) r in cc
    go false q h ih = ih h

has-same : (k : Key) (ms : List Mark) (ks : List Attribute) → Parallel ms ks → has k ks ≡ has_key k ms
has-same k [] [] p = refl
has-same k [] (l ∷ ks) p = absurd p
has-same k (flag l ∷ ms) [] p = absurd p
has-same k (flag l ∷ ms) (numbered j z ∷ ks) p = absurd p
has-same k (flag l ∷ ms) (flagged j ∷ ks) p = ap (λ i. same_key k i || has k ks) (sym p.0) ∙ ap (λ b. same_key k l || b) (has-same k ms ks p.1)
has-same k (valued l ∷ ms) [] p = absurd p
has-same k (valued l ∷ ms) (flagged j ∷ ks) p = absurd p
has-same k (valued l ∷ ms) (numbered j z ∷ ks) p = ap (λ i. same_key k i || has k ks) (sym p.0) ∙ ap (λ b. same_key k l || b) (has-same k ms ks p.1)

-- What is denoted has the attributes that the marks say.
pub marked : (ms : List Mark) (os : List (Option Value)) (ks : List Attribute) → attributes_of ms os ≡ Some ks → list_all is_right ms ≡ true → Marked ms ks
marked ms os ks e r =
    let p = parallel ms os ks e in
    record {
      size = numbered-there Key.Size refl ms ks p r;
      parts = numbered-there Key.NumParts refl ms ks p r;
      part = numbered-there Key.PartSize refl ms ks p r;
      total = flagged-there Key.Total refl ms ks p r;
      same = has-same Key.Total ms ks p;
      sized = λ h. numbered-there Key.Size refl ms ks p r (sym (has-same Key.Size ms ks p) ∙ h);
    }

-- Where the marks bound occurrences, so do the attributes.
pub occurs-marked : (ms : List Mark) (os : List (Option Value)) (ks : List Attribute) → attributes_of ms os ≡ Some ks → list_all is_right ms ≡ true → bounds_occurrences ms ≡ true → OccursBound ks
occurs-marked ms os ks e r b = go (has_key Key.Size ms) refl (has_key Key.MaxSize ms) refl b
  where
    p : Parallel ms ks
    p = parallel ms os ks e

    last : (o : Option ℕ) → IsTrue (is_some (greatest_size ks)) → IsTrue (is_some (or_else o (greatest_size ks)))
    last None h = h
    last (Some n) h = refl

    first : (o q : Option ℕ) → IsTrue (is_some o) → IsTrue (is_some (or_else o q))
    first None q h = cc
    first (Some n) q h = refl

    second : (o q : Option ℕ) → IsTrue (is_some q) → IsTrue (is_some (or_else o q))
    second None q h = h
    second (Some n) q h = refl

    go : (s : Bool) → has_key Key.Size ms ≡ s → (m : Bool) → has_key Key.MaxSize ms ≡ m → (s || m) || has_key Key.MaxOccur ms ≡ true → OccursBound ks
    go true q m w h = last (attribute Key.MaxOccur ks) (first (attribute Key.Size ks) (attribute Key.MaxSize ks) (numbered-there Key.Size refl ms ks p r q))
    go false q true w h = last (attribute Key.MaxOccur ks) (second (attribute Key.Size ks) (attribute Key.MaxSize ks) (numbered-there Key.MaxSize refl ms ks p r w))
    go false q false w h = first (attribute Key.MaxOccur ks) (greatest_size ks) (numbered-there Key.MaxOccur refl ms ks p r h)

-- ---- ranges

-- What is denoted has the bounds that the ranges say.
pub ranges : (rs : List Ends) (os : List (Option Value)) (ss : List Span) → spans_of rs os ≡ Some ss → Ranges rs ss
ranges [] [] ss e = let q : [] ≡ ss = cc in subst (Ranges []) q tt
ranges [] (o ∷ os) ss e = cc
ranges (r ∷ rs) [] ss e = go r e
  where
    go : (r : Ends) → spans_of (r ∷ rs) [] ≡ Some ss → Ranges (r ∷ rs) ss
    go one_value e = cc
    go both_ends e = cc
    go low_end e = cc
    go high_end e = cc
ranges (one_value ∷ rs) (a ∷ os) ss e = go (as_int a) (spans_of rs os) refl e (λ us q. ranges rs os us q)
  where
    go : (i : Option ℤ) (o : Option (List Span)) → spans_of rs os ≡ o → and_then i (λ n. with_span (Some n) (Some n) o) ≡ Some ss → ((us : List Span) → spans_of rs os ≡ Some us → Ranges rs us) → Ranges (one_value ∷ rs) ss
    go None o q e ih = cc
    go (Some n) None q e ih = cc
    go (Some n) (Some us) q e ih = let w : record { low = Some n; high = Some n } ∷ us ≡ ss = cc in subst (Ranges (one_value ∷ rs)) w ((refl, refl), ih us q)
ranges (both_ends ∷ rs) (a ∷ []) ss e = cc
ranges (both_ends ∷ rs) (a ∷ b ∷ os) ss e = go (as_int a) (as_int b) (spans_of rs os) refl e (λ us q. ranges rs os us q)
  where
    go : (i j : Option ℤ) (o : Option (List Span)) → spans_of rs os ≡ o → and_then i (λ n. and_then j (λ m. with_span (Some n) (Some m) o)) ≡ Some ss → ((us : List Span) → spans_of rs os ≡ Some us → Ranges rs us) → Ranges (both_ends ∷ rs) ss
    go None j o q e ih = cc
    go (Some n) None o q e ih = cc
    go (Some n) (Some m) None q e ih = cc
    go (Some n) (Some m) (Some us) q e ih = let w : record { low = Some n; high = Some m } ∷ us ≡ ss = cc in subst (Ranges (both_ends ∷ rs)) w ((refl, refl), ih us q)
ranges (low_end ∷ rs) (a ∷ os) ss e = go (as_int a) (spans_of rs os) refl e (λ us q. ranges rs os us q)
  where
    go : (i : Option ℤ) (o : Option (List Span)) → spans_of rs os ≡ o → and_then i (λ n. with_span (Some n) None o) ≡ Some ss → ((us : List Span) → spans_of rs os ≡ Some us → Ranges rs us) → Ranges (low_end ∷ rs) ss
    go None o q e ih = cc
    go (Some n) None q e ih = cc
    go (Some n) (Some us) q e ih = let w : record { low = Some n; high = None } ∷ us ≡ ss = cc in subst (Ranges (low_end ∷ rs)) w (tt, ih us q)
ranges (high_end ∷ rs) (a ∷ os) ss e = go (as_int a) (spans_of rs os) refl e (λ us q. ranges rs os us q)
  where
    go : (i : Option ℤ) (o : Option (List Span)) → spans_of rs os ≡ o → and_then i (λ m. with_span None (Some m) o) ≡ Some ss → ((us : List Span) → spans_of rs os ≡ Some us → Ranges rs us) → Ranges (high_end ∷ rs) ss
    go None o q e ih = cc
    go (Some n) None q e ih = cc
    go (Some n) (Some us) q e ih = let w : record { low = None; high = Some n } ∷ us ≡ ss = cc in subst (Ranges (high_end ∷ rs)) w (tt, ih us q)
