-- A search of the table of attributes' words, entry by entry.
use Rattle.std.proofs.Common.{◌≡◌, ap, ℕ, suc, ◌+◌, ◌<◌, add-one, true, false, List, ◌∷◌, length, get_or, drop, drop-cons, Some, if◌then◌else◌}
use Rattle.std.specs.Str.{bytes_eq}
use denote.Bor.{Bor}
use Rattle.ess_semantics.specs.declared.words.Key.{Key}
use Rattle.ess_semantics.specs.Names.{look_by}
use Rattle.ess_grammar.specs.Words.{Text}
use Rattle.ess_parse_domains.specs.Attributes.{shown_keys}

look-here : (e : Bor Text × Key) (es : List (Bor Text × Key)) (t : Text) → bytes_eq e.0.now t ≡ true →
    look_by bytes_eq (shown_keys (e ∷ es)) t ≡ Some e.1
look-here e es t h = ap (λ b. if b then Some e.1 else look_by bytes_eq (shown_keys es) t) h

look-past : (e : Bor Text × Key) (es : List (Bor Text × Key)) (t : Text) → bytes_eq e.0.now t ≡ false →
    look_by bytes_eq (shown_keys (e ∷ es)) t ≡ look_by bytes_eq (shown_keys es) t
look-past e es t h = ap (λ b. if b then Some e.1 else look_by bytes_eq (shown_keys es) t) h

pub look-found : (es : List (Bor Text × Key)) (i : ℕ) (d : Bor Text × Key) (t : Text) → i < length es →
    bytes_eq (get_or es i d).0.now t ≡ true → look_by bytes_eq (shown_keys (drop i es)) t ≡ Some (get_or es i d).1
look-found es i d t h k = rw (drop-cons es i d h) (look-here (get_or es i d) (drop (suc i) es) t k)

pub look-passed : (es : List (Bor Text × Key)) (i : ℕ) (d : Bor Text × Key) (t : Text) → i < length es →
    bytes_eq (get_or es i d).0.now t ≡ false →
    look_by bytes_eq (shown_keys (drop i es)) t ≡ look_by bytes_eq (shown_keys (drop (i + 1) es)) t
look-passed es i d t h k = rw (add-one, drop-cons es i d h) (look-past (get_or es i d) (drop (suc i) es) t k)
