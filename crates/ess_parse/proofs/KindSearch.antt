-- A search of the names of kinds, entry by entry.
use Rattle.std.proofs.Common.{◌≡◌, ap, ℕ, suc, ◌+◌, ◌<◌, add-one, true, false, List, ◌∷◌, length, get_or, drop, drop-cons, Some, if◌then◌else◌}
use Rattle.std.specs.Str.{bytes_eq}
use denote.Bor.{Bor}
use Rattle.ess_semantics.specs.declared.words.ReprKind.{ReprKind}
use Rattle.ess_semantics.specs.Names.{look_by}
use Rattle.ess_grammar.specs.Words.{Text}
use Rattle.ess_parse.specs.Machines.{shown_table}

look-here : (e : Bor Text × ReprKind) (es : List (Bor Text × ReprKind)) (t : Text) → bytes_eq e.0.now t ≡ true →
    look_by bytes_eq (shown_table (e ∷ es)) t ≡ Some e.1
look-here e es t h = ap (λ b. if b then Some e.1 else look_by bytes_eq (shown_table es) t) h

look-past : (e : Bor Text × ReprKind) (es : List (Bor Text × ReprKind)) (t : Text) → bytes_eq e.0.now t ≡ false →
    look_by bytes_eq (shown_table (e ∷ es)) t ≡ look_by bytes_eq (shown_table es) t
look-past e es t h = ap (λ b. if b then Some e.1 else look_by bytes_eq (shown_table es) t) h

-- The entry at an index has the name.
pub look-found : (es : List (Bor Text × ReprKind)) (i : ℕ) (d : Bor Text × ReprKind) (t : Text) → i < length es →
    bytes_eq (get_or es i d).0.now t ≡ true →
    look_by bytes_eq (shown_table (drop i es)) t ≡ Some (get_or es i d).1
look-found es i d t h k = rw (drop-cons es i d h) (look-here (get_or es i d) (drop (suc i) es) t k)

-- The entry at an index has another name.
pub look-passed : (es : List (Bor Text × ReprKind)) (i : ℕ) (d : Bor Text × ReprKind) (t : Text) → i < length es →
    bytes_eq (get_or es i d).0.now t ≡ false →
    look_by bytes_eq (shown_table (drop i es)) t ≡ look_by bytes_eq (shown_table (drop (i + 1) es)) t
look-passed es i d t h k = rw (add-one, drop-cons es i d h) (look-past (get_or es i d) (drop (suc i) es) t k)
