-- Lists of what passes a test, as a loop goes over them.
use Rattle.std.proofs.Common.{◌≡◌, refl, sym, ap, ◌∙◌, ℕ, ◌+◌, ◌<◌, Bool, true, false, if◌then◌else◌, List, [], ◌∷◌, ◌++◌, length, map, filter, drop, get_or, append_assoc}
use Rattle.std.proofs.lemmas.List.{map_push, drop_more}

module _ {A B X Y : Type 0} (f : A → B) (test : B → Bool) (v : B → Y) (g : X → Y) where
  by_first : (p : A) (ps : List A) (b : Bool) → test (f p) ≡ b
      → map v (filter test (map f (p ∷ ps))) ≡ map v (if b then f p ∷ filter test (map f ps) else filter test (map f ps))
  by_first p ps b e = ap (λ b. map v (if b then f p ∷ filter test (map f ps) else filter test (map f ps))) e

  left : (ps : List A) (i : ℕ) (p : A) → i < length ps → p ≡ get_or ps i p
      → map v (filter test (map f (drop i ps))) ≡ map v (filter test (map f (p ∷ drop (i + 1) ps)))
  left ps i p lt is = ap (λ l. map v (filter test (map f l))) (drop_more ps i p lt ∙ ap (λ q. q ∷ drop (i + 1) ps) (sym is))

  -- One that passes gives one more.
  pub one_more : (ps : List A) (i : ℕ) (p : A) (done new : List X) (n : X) (all : List Y) → i < length ps → p ≡ get_or ps i p
      → test (f p) ≡ true → g n ≡ v (f p) → new ≡ done ++ n ∷ []
      → map g done ++ map v (filter test (map f (drop i ps))) ≡ all
      → map g new ++ map v (filter test (map f (drop (i + 1) ps))) ≡ all
  one_more ps i p done new n all lt is b e q h =
      let rest = map v (filter test (map f (drop (i + 1) ps))) in
      ap (λ l. map g l ++ rest) q ∙ ap (λ l. l ++ rest) (map_push g done n)
      ∙ append_assoc (map g done) (g n ∷ []) rest
      ∙ ap (λ y. map g done ++ y ∷ rest) e
      ∙ sym (ap (λ l. map g done ++ l) (left ps i p lt is ∙ by_first p (drop (i + 1) ps) true b)) ∙ h

  -- Another one gives none.
  pub none_more : (ps : List A) (i : ℕ) (p : A) (done : List X) (all : List Y) → i < length ps → p ≡ get_or ps i p
      → test (f p) ≡ false
      → map g done ++ map v (filter test (map f (drop i ps))) ≡ all
      → map g done ++ map v (filter test (map f (drop (i + 1) ps))) ≡ all
  none_more ps i p done all lt is b h =
      sym (ap (λ l. map g done ++ l) (left ps i p lt is ∙ by_first p (drop (i + 1) ps) false b)) ∙ h
