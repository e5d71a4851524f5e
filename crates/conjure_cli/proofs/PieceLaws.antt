-- Laws of pieces that a sink takes one after another.
use Rattle.std.proofs.Common.{◌≡◌, refl, sym, ap, ◌∙◌, ℕ, ◌+◌, ◌<◌, List, [], ◌∷◌, ◌++◌, length, take, drop, get_or, map, append_assoc, append-nil, Option, Bor, Ok, Err, inl, inr, subst}
use Rattle.std.specs.Prelude.{codes, OnOk, OnErr, Result}
use Rattle.std.specs.List.{concat}
use Rattle.std.proofs.lemmas.List.{take_more, map-append, take-append-drop}
use Rattle.std.proofs.Math.Seq.{take-append_seam}
use Rattle.ess_io.specs.Counts.{Rose}
use Rattle.ess_io.specs.Sinks.{grown, GrewByPrefix}
use Rattle.ess_io.proofs.Growth.{grown-grown}
use Rattle.conjure_cli.specs.Seen.{SinkSeen, LeavesLine}
use Rattle.conjure_cli.specs.Ending.{LeavesErr, told_of, err_line, out_line}
use Rattle.conjure_cli.specs.declared.ending.Ending.{Ending}
use Rattle.conjure_cli.specs.declared.ending.Ending.TheVariants.{Done, Usage, Missing, Unreadable, TooLong, NotYet, Unwritable, OutputFailed, NoMemory}

abbrev pub joined : List (Bor (List ℕ)) → List ℕ
joined pieces = concat (map (λ piece. piece.now) pieces)

concat-append : (xs ys : List (List ℕ)) → concat (xs ++ ys) ≡ concat xs ++ concat ys
concat-append [] ys = refl
concat-append (x ∷ xs) ys = ap (λ t. x ++ t) (concat-append xs ys) ∙ sym (append_assoc x (concat xs) (concat ys))

joined-append : (xs ys : List (Bor (List ℕ))) → joined (xs ++ ys) ≡ joined xs ++ joined ys
joined-append xs ys = ap concat (map-append (λ piece. piece.now) xs ys) ∙ concat-append (map (λ piece. piece.now) xs) (map (λ piece. piece.now) ys)

joined_more : (pieces : List (Bor (List ℕ))) (i : ℕ) (d : Bor (List ℕ)) → i < length pieces → joined (take (i + 1) pieces) ≡ joined (take i pieces) ++ (get_or pieces i d).now
joined_more pieces i d within =
    ap joined (take_more pieces i d within) ∙ joined-append (take i pieces) (get_or pieces i d ∷ [])
    ∙ ap (λ t. joined (take i pieces) ++ t) (append-nil (get_or pieces i d).now)

-- one piece more
pub piece_taken : (pieces : List (Bor (List ℕ))) (i : ℕ) (d : Bor (List ℕ)) (old held new : Option (List ℕ)) → i < length pieces
    → held ≡ grown old (joined (take i pieces)) → new ≡ grown held (get_or pieces i d).now → new ≡ grown old (joined (take (i + 1) pieces))
piece_taken pieces i d old held new within so_far next =
    next ∙ ap (λ h. grown h (get_or pieces i d).now) so_far
    ∙ grown-grown old (joined (take i pieces)) (get_or pieces i d).now ∙ ap (grown old) (sym (joined_more pieces i d within))

-- a text that begins with some bytes was taken up to there
part_of : (old new : Option (List ℕ)) (text front rest : List ℕ) → text ≡ front ++ rest → new ≡ grown old front → GrewByPrefix old new text
part_of old new text front rest is grew =
    (length front, grew ∙ ap (grown old) (sym (take-append_seam front rest) ∙ ap (take (length front)) (sym is)))

-- a piece that was cut
pub piece_cut : (pieces : List (Bor (List ℕ))) (i : ℕ) (d : Bor (List ℕ)) (old held new : Option (List ℕ)) → i < length pieces
    → held ≡ grown old (joined (take i pieces)) → GrewByPrefix held new (get_or pieces i d).now → GrewByPrefix old new (joined pieces)
piece_cut pieces i d old held new within so_far cut =
    let piece = (get_or pieces i d).now in
    let front = joined (take i pieces) in
    let rest = joined (drop (i + 1) pieces) in
    part_of old new (joined pieces) (joined (take i pieces) ++ take cut.0 (get_or pieces i d).now) (drop cut.0 (get_or pieces i d).now ++ joined (drop (i + 1) pieces))
    (ap joined (sym (take-append-drop (i + 1) pieces)) ∙ joined-append (take (i + 1) pieces) (drop (i + 1) pieces)
    ∙ ap (λ t. t ++ joined (drop (i + 1) pieces)) (joined_more pieces i d within ∙ ap (λ t. joined (take i pieces) ++ t) (sym (take-append-drop cut.0 (get_or pieces i d).now)))
    ∙ regrouped (joined (take i pieces)) (take cut.0 (get_or pieces i d).now) (drop cut.0 (get_or pieces i d).now) (joined (drop (i + 1) pieces)))
    (cut.1 ∙ ap (λ h. grown h (take cut.0 (get_or pieces i d).now)) so_far ∙ grown-grown old (joined (take i pieces)) (take cut.0 (get_or pieces i d).now))
  where
    regrouped : (a b c e : List ℕ) → (a ++ (b ++ c)) ++ e ≡ (a ++ b) ++ (c ++ e)
    regrouped a b c e = simp append_assoc

-- the line of an ending in its pieces
pub line_pieces : (file place name text : List ℕ) (ending : Ending) → name ++ text ≡ told_of file place ending
    → concat (codes "conjure: " ∷ name ∷ text ∷ codes "\n" ∷ []) ≡ err_line file place ending
line_pieces file place name text ending told =
    ap (λ t. codes "conjure: " ++ t) (sym (append_assoc name text (10 ∷ []))) ∙ ap (λ t. codes "conjure: " ++ (t ++ 10 ∷ [])) told

-- a line that was taken whole or in part
pub line_left : {T E : Type 0} (result : Result T E) (line pieces : List ℕ) (before after : SinkSeen) → pieces ≡ line
    → OnOk result (after.bytes ≡ grown before.bytes pieces) → OnErr result (GrewByPrefix before.bytes after.bytes pieces)
    → OnErr result (Rose before.faults after.faults) → LeavesLine line before after
line_left (Ok x) line pieces before after is ok part failed = inl (ok ∙ ap (grown before.bytes) is)
line_left (Err e) line pieces before after is ok part failed = inr (failed, subst (GrewByPrefix before.bytes after.bytes) is part)

-- the line of a model in its pieces
pub out_pieces : (place : List ℕ) → concat (codes "wrote " ∷ place ∷ codes "\n" ∷ []) ≡ out_line place
out_pieces place = refl

-- an ending that isn't the good one leaves its line
pub err_left : (ending : Ending) (file place : List ℕ) (before after : SinkSeen) → (ending ≡ Done → ⊥)
    → LeavesLine (err_line file place ending) before after → LeavesErr ending file place before after
err_left Done file place before after other left = absurd (other refl)
err_left Usage file place before after other left = left
err_left Missing file place before after other left = left
err_left Unreadable file place before after other left = left
err_left TooLong file place before after other left = left
err_left NotYet file place before after other left = left
err_left Unwritable file place before after other left = left
err_left OutputFailed file place before after other left = left
err_left NoMemory file place before after other left = left
