-- Texts of the numbers from 1 to k, one after another.
use Rattle.std.proofs.Common.{◌≡◌, refl, sym, ap, ◌∙◌, subst, ℕ, suc, ◌+◌, [], ◌++◌, append-nil, append_assoc, arith}
use Rattle.std.specs.Prelude.{OnOk, Ok, Err}
use Rattle.std.specs.declared.result.Result.{Result}
use Rattle.ess_semantics.specs.Values.{Text}
use Rattle.conjure_cli.specs.Texts.{upto}

-- The number behind k.
next : (k : ℕ) → suc k ≡ k + 1
next k = omega arith

-- The texts up to the number behind k.
upto-next : (f : ℕ → Text) (k : ℕ) → upto f (k + 1) ≡ upto f k ++ f (k + 1)
upto-next f k = subst (λ n. upto f n ≡ upto f k ++ f n) (next k) refl

-- Before the first number there is nothing.
pub upto_none : (f : ℕ → Text) (t : Text) → t ≡ t ++ upto f 0
upto_none f t = sym (append-nil t)

-- The text of a number more.
pub upto_more : (f : ℕ → Text) (k : ℕ) (t u v : Text) → u ≡ t ++ upto f k → v ≡ u ++ f (k + 1) → v ≡ t ++ upto f (k + 1)
upto_more f k t u v so adds =
    adds ∙ ap (λ l. l ++ f (k + 1)) so ∙ append_assoc t (upto f k) (f (k + 1)) ∙ ap (λ l. t ++ l) (sym (upto-next f k))

-- Two texts behind one.
joined : (t u v a b : Text) → u ≡ t ++ a → v ≡ u ++ b → v ≡ t ++ (a ++ b)
joined t u v a b e f = f ∙ ap (λ l. l ++ b) e ∙ append_assoc t a b

-- Three texts behind one, where the last call may fail.
pub three : {A E : Type 0} (r : Result A E) (t u v w a b c : Text) → u ≡ t ++ a → v ≡ u ++ b → OnOk r (w ≡ v ++ c)
    → OnOk r (w ≡ t ++ (a ++ b ++ c))
three (Ok x) t u v w a b c e f g = joined t v w (a ++ b) c (joined t u v a b e f) g
three (Err x) t u v w a b c e f g = tt

-- Four texts behind none.
pub four : (t u v w x a b c d : Text) → t ≡ [] → u ≡ t ++ a → v ≡ u ++ b → w ≡ v ++ c → x ≡ w ++ d → x ≡ a ++ b ++ c ++ d
four t u v w x a b c d none e f g h =
    h ∙ ap (λ l. l ++ d) (g ∙ ap (λ l. l ++ c) (f ∙ ap (λ l. l ++ b) (e ∙ ap (λ l. l ++ a) none)))
