-- What it says of the parts that an optional answer is there.
use Rattle.std.proofs.Common.{◌≡◌, refl, Bool, true, false, if◌then◌else◌, Option, Some, None, option_map}
use Rattle.ess_semantics.specs.Lists.{and_then, when}

pub then-some : {A B : Type 0} (o : Option A) (f : A → Option B) (y : B) → and_then o f ≡ Some y → (x : A) × (o ≡ Some x) × (f x ≡ Some y)
then-some None f y e = cc
then-some (Some x) f y e = (x, refl, e)

pub map-some : {A B : Type 0} (o : Option A) (f : A → B) (y : B) → option_map f o ≡ Some y → (x : A) × (o ≡ Some x) × (f x ≡ y)
map-some None f y e = cc
map-some (Some x) f y e = (x, refl, cc)

pub when-some : {A : Type 0} (b : Bool) (x y : A) → when b x ≡ Some y → (b ≡ true) × (x ≡ y)
when-some true x y e = (refl, cc)
when-some false x y e = cc

pub if-some : {A : Type 0} (b : Bool) (o : Option A) (y : A) → (if b then o else None) ≡ Some y → (b ≡ true) × (o ≡ Some y)
if-some true o y e = (refl, e)
if-some false o y e = cc
