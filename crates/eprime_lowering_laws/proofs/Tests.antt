-- Tests that hold of both parts, or of one.
use Rattle.std.proofs.Common.{◌≡◌, refl, ap, ◌∙◌, Bool, true, false, ◌&&◌, ◌||◌, if◌then◌else◌}
use Rattle.ess_semantics.specs.Operators.{iff}
use Rattle.ess_grammar.specs.Models.{same_truth}

pub and-left : (a b : Bool) → (a && b) ≡ true → a ≡ true
and-left true b h = refl
and-left false b h = h

pub and-right : (a b : Bool) → (a && b) ≡ true → b ≡ true
and-right true b h = h
and-right false b h = cc

pub both : (a b : Bool) → a ≡ true → b ≡ true → (a && b) ≡ true
both a b h k = ap (λ a. a && b) h ∙ k

pub or-either : {P : Type 0} (a b : Bool) → (a || b) ≡ true → (a ≡ true → P) → (b ≡ true → P) → P
or-either true b h f g = f refl
or-either false b h f g = g h

pub or-left : (a b : Bool) → a ≡ true → (a || b) ≡ true
or-left a b h = ap (λ a. a || b) h

pub or-right : (a b : Bool) → b ≡ true → (a || b) ≡ true
or-right true b h = refl
or-right false b h = h

-- One of two tests, as a third one says.
pub if-true : (t a b : Bool) → t ≡ true → a ≡ true → (if t then a else b) ≡ true
if-true t a b h k = ap (λ t. if t then a else b) h ∙ k

pub if-false : (t a b : Bool) → t ≡ false → b ≡ true → (if t then a else b) ≡ true
if-false t a b h k = ap (λ t. if t then a else b) h ∙ k

pub if-either : {P : Type 0} (t a b : Bool) → (if t then a else b) ≡ true → (t ≡ true → a ≡ true → P) → (b ≡ true → P) → P
if-either true a b h f g = f refl h
if-either false a b h f g = g h

-- Two truth values that are the same.
pub same-iff : (a b : Bool) → iff a b ≡ same_truth a b
same-iff true b = refl
same-iff false b = refl
