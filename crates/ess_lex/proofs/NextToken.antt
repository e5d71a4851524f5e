-- What comes at a byte of a text, from what is found there.
use Rattle.std.proofs.Common.{◌≡◌, sym, ap, ◌∙◌, subst, ℕ, ◌+◌, ◌-◌, length, take, drop, None}
use Rattle.std.proofs.lemmas.List.{take_rest, drop-drop}
use Rattle.std.proofs.Math.Seq.{take-add}
use Rattle.ess_rows.specs.declared.place.Place.{Place}
use Rattle.ess_grammar.specs.Words.{Text, Token}
use Rattle.ess_grammar.specs.Places.{place}
use Rattle.ess_grammar.specs.Tokens.{longest_token, bad_byte, wide_number, next_token, lexed_after}
use Rattle.ess_grammar.specs.Tokens.{BeginsPlain}
use Rattle.ess_grammar.proofs.Lexing.{later, lexed_after-token, lexed_after-wide, lexed_after-bad}
use Rattle.ess_lex.specs.Scan.{IsFirstToken, BeginsWide}

later-at : (text : Text) (at n : ℕ) → later (take at text) (drop at text) n ≡ lexed_after (take (at + n) text) (drop (at + n) text)
later-at text at n =
    ap (λ s. lexed_after s (drop n (drop at text))) (sym (take-add at n text)) ∙ ap (lexed_after (take (at + n) text)) (drop-drop n at text)

-- the code's slice from a byte on
abbrev pub slice_from : Text → ℕ → Text
slice_from text at = take (length text - at) (drop at text)

pub next-is_token : (text text' : Text) (at at' n : ℕ) (t : Token) (p : Place) → BeginsPlain (drop at text) →
    IsFirstToken t n (slice_from text at) → p ≡ place (take at text) → text' ≡ text → at' ≡ at + n →
    next_token t (take n (slice_from text at)) p (lexed_after (take at' text') (drop at' text')) ≡ lexed_after (take at text) (drop at text)
next-is_token text text' at at' n t p plain found e same moved =
    let first : IsFirstToken t n (drop at text) = subst (IsFirstToken t n) (take_rest text at) found in
    ap (λ s. next_token t (take n s) p (lexed_after (take at' text') (drop at' text'))) (take_rest text at)
    ∙ ap (λ q. next_token t (take n (drop at text)) q (lexed_after (take at' text') (drop at' text'))) e
    ∙ ap (next_token t (take n (drop at text)) (place (take at text)))
    (ap (λ s. lexed_after (take at' s) (drop at' s)) same ∙ ap (λ i. lexed_after (take i text) (drop i text)) moved
    ∙ sym (later-at text at n))
    ∙ sym (lexed_after-token (take at text) (drop at text) t n plain first.longest first.narrow)

pub next-is_wide : (text : Text) (at : ℕ) (p : Place) → BeginsPlain (drop at text) → BeginsWide (slice_from text at) →
    p ≡ place (take at text) → wide_number p ≡ lexed_after (take at text) (drop at text)
next-is_wide text at p plain found e =
    let first : BeginsWide (drop at text) = subst BeginsWide (take_rest text at) found in
    ap wide_number e ∙ sym (lexed_after-wide (take at text) (drop at text) first.found plain first.longest first.wide)

pub next-is_bad : (text : Text) (at : ℕ) (p : Place) → BeginsPlain (drop at text) → longest_token (slice_from text at) ≡ None →
    p ≡ place (take at text) → bad_byte p ≡ lexed_after (take at text) (drop at text)
next-is_bad text at p plain found e =
    ap bad_byte e ∙ sym (lexed_after-bad (take at text) (drop at text) plain (ap longest_token (sym (take_rest text at)) ∙ found))
