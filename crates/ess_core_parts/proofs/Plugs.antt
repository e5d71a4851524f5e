-- Changes at a path, number by number.
use Rattle.std.proofs.Common.{◌≡◌, ℕ, zero, suc, List, [], ◌∷◌, Option, Some, None, Result, Ok, Err, IfErr, refl, sym, ap, ◌∙◌, subst, slice_get}
use Rattle.std.proofs.Math.ListN.{set}
use Rattle.std.specs.Prelude.{option_and_then}
use Rattle.ess_core.specs.declared.expressions.Ex.{Ex}
use Rattle.ess_core_parts.specs.Parts.{parts, part, with_part, at, plug, edited, with_at, Steps, filled}
use Rattle.ess_core_parts.proofs.Searches.{none-past}
use Rattle.ess_core_parts.proofs.LawfulParts.{ex-lawful}

pub replaced-twice : (e : Ex) (k : ℕ) (v w : Ex) → with_part (with_part e k v) k w ≡ with_part e k w
replaced-twice e k v w = (ex-lawful e).again k v w

pub nothing-there : (e : Ex) (k : ℕ) (v : Ex) → part e k ≡ None → with_part e k v ≡ e
nothing-there e k v h = (ex-lawful e).past k v (none-past (parts e) k h)

at-in : (e : Ex) (k : ℕ) (ks : List ℕ) (c : Ex) → part e k ≡ Some c → at e (k ∷ ks) ≡ at c ks
at-in e k ks c h = ap (option_and_then (λ x. at x ks)) h

edited-in : (f : Ex → Ex) (e : Ex) (k : ℕ) (ks : List ℕ) (c : Ex) → part e k ≡ Some c → edited f e (k ∷ ks) ≡ with_part e k (edited f c ks)
edited-in f e k ks c h = ap (λ o. plug o e (λ x. with_part e k (edited f x ks))) h

pub edited-out : (f : Ex → Ex) (e : Ex) (k : ℕ) (ks : List ℕ) → part e k ≡ None → edited f e (k ∷ ks) ≡ e
edited-out f e k ks h = ap (λ o. plug o e (λ x. with_part e k (edited f x ks))) h

-- the part is taken out, changed, and put back
pub changed : (f : Ex → Ex) (e : Ex) (k : ℕ) (ks : List ℕ) (c hole : Ex) → part e k ≡ Some c → (without : Ex) → without ≡ with_part e k hole → (d : Ex) → d ≡ edited f c ks
    → (whole : Ex) → whole ≡ with_part without k d → whole ≡ edited f e (k ∷ ks)
changed f e k ks c hole h without w d i whole is =
    is ∙ ap (λ x. with_part x k d) w ∙ replaced-twice e k hole d ∙ ap (with_part e k) i ∙ sym (edited-in f e k ks c h)

-- a path that leaves the tree changes nothing
pub edited-outside : (f : Ex → Ex) (e : Ex) (ks : List ℕ) → at e ks ≡ None → edited f e ks ≡ e
edited-outside f e [] h = cc
edited-outside f e (k ∷ ks) h = by-part f e k ks h (λ c. edited-outside f c ks) (part e k) refl
  where
    by-part : (f : Ex → Ex) (e : Ex) (k : ℕ) (ks : List ℕ) → at e (k ∷ ks) ≡ None → ((c : Ex) → at c ks ≡ None → edited f c ks ≡ c) → (o : Option Ex) → part e k ≡ o → edited f e (k ∷ ks) ≡ e
    by-part f e k ks h below None p = edited-out f e k ks p
    by-part f e k ks h below (Some c) p =
        edited-in f e k ks c p ∙ ap (with_part e k) (below c (sym (at-in e k ks c p) ∙ h)) ∙ (ex-lawful e).back k c p

-- the same where only the answer tells that the path leaves the part
pub unchanged : (f : Ex → Ex) (e : Ex) (k : ℕ) (ks : List ℕ) (c : Ex) → part e k ≡ Some c → (r : Result Ex Ex) → IfErr r (λ b. at c ks ≡ None) → (whole : Ex) → whole ≡ edited f e (k ∷ ks) → IfErr r (λ b. whole ≡ e)
unchanged f e k ks c p (Ok w) outside whole is = outside
unchanged f e k ks c p (Err b) outside whole is = is ∙ edited-outside f e (k ∷ ks) (at-in e k ks c p ∙ outside)

-- ---- one step of an editor

get-set : (ps : List Ex) (k : ℕ) (c d : Ex) → slice_get ps k ≡ Some c → slice_get (set ps k d) k ≡ Some d
get-set [] k c d h = cc
get-set (p ∷ ps) zero c d h = refl
get-set (p ∷ ps) (suc k) c d h = get-set ps k c d h

part-put : (e : Ex) (k : ℕ) (c d : Ex) → part e k ≡ Some c → part (with_part e k d) k ≡ Some d
part-put e k c d h = ap (λ ps. slice_get ps k) ((ex-lawful e).replaced k d) ∙ get-set (parts e) k c d h

-- a part is taken out, edited at the rest of the path to d, and put back
module _ (e : Ex) (k : ℕ) (ks : List ℕ) (c hole : Ex) (h : part e k ≡ Some c) (without : Ex) (w : without ≡ with_part e k hole)
    (d whole : Ex) (is : whole ≡ with_part without k d) where
  whole-is : whole ≡ with_part e k d
  whole-is = is ∙ ap (λ x. with_part x k d) w ∙ replaced-twice e k hole d

  at-whole : at whole (k ∷ ks) ≡ at d ks
  at-whole = ap (λ x. at x (k ∷ ks)) whole-is ∙ at-in (with_part e k d) k ks d (part-put e k c d h)

  pub step-in : {E A : Type 0} (step : E → Ex → A → E → Ex → Type 0) (f : E) (a : Option A) (g : E)
      → Steps step f (at c ks) a g (at d ks) → Steps step f (at e (k ∷ ks)) a g (at whole (k ∷ ks))
  step-in step f a g s =
      subst (λ o. Steps step f o a g (at whole (k ∷ ks))) (sym (at-in e k ks c h))
      (subst (λ o. Steps step f (at c ks) a g o) (sym at-whole) s)

  with-filled : (o : Option Ex) → d ≡ filled c ks o → with_part e k d ≡ filled e (k ∷ ks) o
  with-filled None i = ap (with_part e k) i ∙ (ex-lawful e).back k c h
  with-filled (Some v) i = ap (with_part e k) i ∙ sym (edited-in (λ x. v) e k ks c h)

  pub filled-in : d ≡ filled c ks (at d ks) → whole ≡ filled e (k ∷ ks) (at whole (k ∷ ks))
  filled-in i = whole-is ∙ with-filled (at d ks) i ∙ sym (ap (filled e (k ∷ ks)) at-whole)

-- there is no such part
module _ (e : Ex) (k : ℕ) (ks : List ℕ) (hole : Ex) (h : part e k ≡ None) (whole : Ex) (is : whole ≡ with_part e k hole) where
  pub at-nothing : at e (k ∷ ks) ≡ None
  at-nothing = ap (option_and_then (λ x. at x ks)) h

  whole-stays : whole ≡ e
  whole-stays = is ∙ nothing-there e k hole h

  at-stays : at whole (k ∷ ks) ≡ None
  at-stays = ap (λ x. at x (k ∷ ks)) whole-stays ∙ at-nothing

  pub no-step : {E A : Type 0} (step : E → Ex → A → E → Ex → Type 0) (f : E) → Steps step f (at e (k ∷ ks)) None f (at whole (k ∷ ks))
  no-step step f =
      subst (λ o. Steps step f o None f (at whole (k ∷ ks))) (sym at-nothing)
      (subst (λ o. Steps step f None None f o) (sym at-stays) refl)

  pub nothing-filled : whole ≡ filled e (k ∷ ks) (at whole (k ∷ ks))
  nothing-filled = whole-stays ∙ sym (ap (filled e (k ∷ ks)) at-stays)
