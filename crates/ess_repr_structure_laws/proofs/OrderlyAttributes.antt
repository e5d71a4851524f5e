-- The attributes of an orderly domain: each has its number, is told once, and flags are of its kind.
use Rattle.std.proofs.Common.{◌≡◌, refl, sym, ap, ◌∙◌, subst, Bool, true, false, ◌&&◌, not, if◌then◌else◌, List, [], ◌∷◌, ℤ, pos, negsuc, int_le, Option, Some, option_map}
use Rattle.std.proofs.lemmas.Bool.{eq-eqb}
use Rattle.ess_semantics.specs.declared.words.Key.{Key}
use Rattle.ess_semantics.specs.Numbers.{natural}
use Rattle.ess_semantics.specs.Values.{Value}
use Rattle.ess_semantics.specs.DomainJudgements.{is_key, marks_among, marks_distinct}
use Rattle.ess_semantics.specs.Kinds.{has_key}
use Rattle.ess_semantics.specs.Trees.{Mark, flag, valued, Exs, no_exs, more_exs}
use Rattle.ess_semantics.specs.Domains.{Attribute, numbered, flagged, attribute, has, same_key, key_number}
use Rattle.ess_semantics.specs.Meaning.{Env, as_int, attributes_of, meaning, meanings}
use Rattle.ess_semantics.proofs.Tests.{and-left, and-right, or-left-no, or-right-no, not-true}
use Rattle.ess_repr_laws.specs.StructureMeaning.{EachFlag}
use Rattle.ess_repr_laws.proofs.Rooms.{one-key}
use Rattle.ess_repr_laws.proofs.SizeMarks.{same-keys}
use Rattle.ess_repr_laws.proofs.StructureConversions.{each-flag}
use Rattle.ess_repr_declare_laws.specs.Laws.{are_numbered}
use Rattle.ess_repr_declare_laws.proofs.SizeNumbers.{mapped, chained, not_below}
use Rattle.ess_repr_structure_laws.proofs.NeatDomains.{EachNumber, IsTold, Told, flags-there}
use Rattle.ess_repr_structure_laws.proofs.ToldSizes.{each-of-two}

-- Where the attributes are denoted, each has its number.
pub numbered-of : (ms : List Mark) (es : Exs) (env : Env) (ks : List Attribute) → attributes_of ms (meanings es env) ≡ Some ks →
    are_numbered ms es ≡ true
numbered-of [] no_exs env ks h = refl
numbered-of [] (more_exs e es) env ks h = cc
numbered-of (flag k ∷ ms) es env ks h = let m = mapped (λ l. flagged k ∷ l) (attributes_of ms (meanings es env)) ks h in numbered-of ms es
    env m.0 m.1
numbered-of (valued k ∷ ms) no_exs env ks h = cc
numbered-of (valued k ∷ ms) (more_exs e es) env ks h =
    let c = chained (as_int (meaning e env)) (λ z. option_map (λ l. numbered k z ∷ l) (attributes_of ms (meanings es env))) ks h in
    let m = mapped (λ l. numbered k c.0 ∷ l) (attributes_of ms (meanings es env)) ks c.2 in numbered-of ms es env m.0 m.1

key-turned : (k j : Key) → same_key k j ≡ false → same_key j k ≡ false
key-turned k j h = go (same_key j k) refl
  where
    go : (b : Bool) → same_key j k ≡ b → same_key j k ≡ false
    go false e = e
    go true e = let q : j ≡ k = one-key j k e in let z : false ≡ true = sym h ∙ ap (λ x. same_key x j) (sym q) ∙ eq-eqb (key_number j)
        (key_number j) refl in cc

-- A key that has no mark has no attribute.
apart-of : (k : Key) (ms : List Mark) (os : List (Option Value)) (ks : List Attribute) → has_key k ms ≡ false → attributes_of ms os ≡ Some
    ks →
    EachNumber (λ j z. same_key j k ≡ false) ks
apart-of k [] [] ks a h = let q : [] ≡ ks = cc in subst (EachNumber (λ j z. same_key j k ≡ false)) q tt
apart-of k [] (o ∷ os) ks a h = cc
apart-of k (flag j ∷ ms) os ks a h =
    let m = mapped (λ l. flagged j ∷ l) (attributes_of ms os) ks h in
    subst (EachNumber (λ j z. same_key j k ≡ false)) m.2 (apart-of k ms os m.0 (or-right-no (same_key k j) (has_key k ms) a) m.1)
apart-of k (valued j ∷ ms) [] ks a h = cc
apart-of k (valued j ∷ ms) (o ∷ os) ks a h =
    let c = chained (as_int o) (λ z. option_map (λ l. numbered j z ∷ l) (attributes_of ms os)) ks h in
    let m = mapped (λ l. numbered j c.0 ∷ l) (attributes_of ms os) ks c.2 in
    subst (EachNumber (λ j z. same_key j k ≡ false)) m.2
    (key-turned k j (or-left-no (same_key k j) (has_key k ms) a), apart-of k ms os m.0 (or-right-no (same_key k j) (has_key k ms) a) m.1)

not-negative : (z : ℤ) → int_le (pos 0) z ≡ true → z ≡ pos (natural z)
not-negative (pos n) h = refl
not-negative (negsuc n) h = cc

-- Attributes of which none stands twice, and none is below 0, are told.
pub told-of : (ms : List Mark) (os : List (Option Value)) (ks : List Attribute) → marks_distinct ms ≡ true → attributes_of ms os ≡ Some ks →
    not_below ks ≡ true → Told ks
told-of [] [] ks d h n = let q : [] ≡ ks = cc in subst Told q tt
told-of [] (o ∷ os) ks d h n = cc
told-of (flag j ∷ ms) os ks d h n =
    let m = mapped (λ l. flagged j ∷ l) (attributes_of ms os) ks h in
    subst Told m.2 (told-of ms os m.0 (and-right (not (has_key j ms)) (marks_distinct ms) d) m.1 (ap not_below m.2 ∙ n))
told-of (valued j ∷ ms) [] ks d h n = cc
told-of (valued j ∷ ms) (o ∷ os) ks d h n =
    let c = chained (as_int o) (λ z. option_map (λ l. numbered j z ∷ l) (attributes_of ms os)) ks h in
    let m = mapped (λ l. numbered j c.0 ∷ l) (attributes_of ms os) ks c.2 in
    let a : int_le (pos 0) c.0 && not_below m.0 ≡ true = ap not_below m.2 ∙ n in
    let t = told-of ms os m.0 (and-right (not (has_key j ms)) (marks_distinct ms) d) m.1 (and-right (int_le (pos 0) c.0) (not_below m.0) a)
    in
    let p = apart-of j ms os m.0 (not-true (has_key j ms) (and-left (not (has_key j ms)) (marks_distinct ms) d)) m.1 in
    subst Told m.2 (
      (
        natural c.0,
        not-negative c.0 (and-left (int_le (pos 0) c.0) (not_below m.0) a),
        ap (λ b. if b then Some (natural c.0) else attribute j m.0) (eq-eqb (key_number j) (key_number j) refl),
      ),
      each-of-two (IsTold m.0) (λ k z. same_key k j ≡ false) (IsTold (numbered j c.0 ∷ m.0)) m.0
          (λ k z i e. (i.0, i.1, ap (λ b. if b then Some (natural c.0) else attribute k m.0) e ∙ i.2)) t p,
    )

-- Each attribute without a number is among those that may stand.
pub flags-among : (vs fs : List Key) (ms : List Mark) (os : List (Option Value)) (ks : List Attribute) → marks_among vs fs ms ≡ true →
    attributes_of ms os ≡ Some ks →
    EachFlag (λ k. is_key fs k ≡ true) ks
flags-among vs fs [] [] ks a h = let q : [] ≡ ks = cc in subst (EachFlag (λ k. is_key fs k ≡ true)) q tt
flags-among vs fs [] (o ∷ os) ks a h = cc
flags-among vs fs (flag j ∷ ms) os ks a h =
    let m = mapped (λ l. flagged j ∷ l) (attributes_of ms os) ks h in
    subst (EachFlag (λ k. is_key fs k ≡ true)) m.2
    (and-left (is_key fs j) (marks_among vs fs ms) a, flags-among vs fs ms os m.0 (and-right (is_key fs j) (marks_among vs fs ms) a) m.1)
flags-among vs fs (valued j ∷ ms) [] ks a h = cc
flags-among vs fs (valued j ∷ ms) (o ∷ os) ks a h =
    let c = chained (as_int o) (λ z. option_map (λ l. numbered j z ∷ l) (attributes_of ms os)) ks h in
    let m = mapped (λ l. numbered j c.0 ∷ l) (attributes_of ms os) ks c.2 in
    subst (EachFlag (λ k. is_key fs k ≡ true)) m.2 (flags-among vs fs ms os m.0 (and-right (is_key vs j) (marks_among vs fs ms) a) m.1)

-- Each has its mark.
pub flags-marked : (ms : List Mark) (os : List (Option Value)) (ks : List Attribute) → attributes_of ms os ≡ Some ks → EachFlag
    (λ k. has_key k ms ≡ true) ks
flags-marked ms os ks h = each-flag (λ k. has k ks ≡ true) (λ k. has_key k ms ≡ true) ks (λ k e. sym (same-keys k ms os ks h) ∙ e)
    (flags-there ks)
