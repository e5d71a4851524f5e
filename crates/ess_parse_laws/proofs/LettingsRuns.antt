-- The reader of lettings reads what the rules derive as a file of lettings, answers what they derive, and stops for good.
use Rattle.std.proofs.Common.{◌≡◌, refl, sym, ap, ◌∙◌, subst, Bool, true, false, ◌&&◌, List, [], ◌∷◌, ◌++◌, Option, Some, None}
use Rattle.ess_semantics.specs.Values.{Text}
use Rattle.ess_semantics.specs.Trees.{Stm}
use Rattle.ess_grammar.specs.Words.{Token, letting_word}
use Rattle.ess_grammar.specs.Statements.{NameList, last_name, next_name, PlainLetting, value_letting, enum_letting, plain_letting_part, domain_letting_part, unnamed_letting_part, Parts, last_part, next_part, begins_given, begins_find, begins_letting, begins_where, begins_such_that, parts_statement, minimising_statement, maximising_statement, Statements, no_statements, more_statements, LanguageLine, no_language_line, language_line, IsSpecification, specification, PlainLettings, last_letting, next_letting, LettingStatements, no_lettings, more_lettings, IsLettingsFile, lettings_file}
use Rattle.ess_grammar.proofs.LettingsFiles.{file-specification}
use Rattle.ess_parse_laws.specs.Frames.{Frame}
use Rattle.ess_parse_laws.specs.Modes.{Mode, State, Answer, specification_answer, nothing_read}
use Rattle.ess_parse_laws.specs.Machine.{step, then_run, run, then_state_after}
use Rattle.ess_parse_laws.specs.Lettings.{is_type_word, may_stand, all_may_stand, lettings_step, lettings_run, lettings_state_after, read_lettings}
use Rattle.ess_parse_laws.proofs.Booleans.{and-left, and-right, by_bool}
use Rattle.ess_parse_laws.proofs.TokensOfExpressions.{MayStand, expression-stands}
use Rattle.ess_parse_laws.proofs.CompleteStatements.{complete-specification}
use Rattle.ess_parse_laws.proofs.Sound.{IsSound, sound-specification}

-- ---- the tokens of files of lettings

names-stand : {ns : List Text} {ts us : List Token} → NameList ns ts us → MayStand ts us
names-stand last_name = refl
names-stand (next_name ns) = names-stand ns

letting-stands : {s : Stm} {ts us : List Token} → PlainLetting s ts us → MayStand ts us
letting-stands (value_letting d) = expression-stands d
letting-stands (enum_letting ns) = names-stand ns

lettings-stand : {ss : List Stm} {ts us : List Token} → PlainLettings ss ts us → MayStand ts us
lettings-stand (last_letting l) = letting-stands l
lettings-stand (next_letting l ls) = letting-stands l ∙ lettings-stand ls

statements-stand : {ss : List Stm} {ts : List Token} → LettingStatements ss ts → all_may_stand false ts ≡ true
statements-stand no_lettings = refl
statements-stand (more_lettings l r) = lettings-stand l ∙ statements-stand r

line-stands : {ts us : List Token} → LanguageLine ts us → MayStand ts us
line-stands no_language_line = refl
line-stands language_line = refl

file-stands : {ss : List Stm} {ts : List Token} → IsLettingsFile ss ts → all_may_stand false ts ≡ true
file-stands (lettings_file l r) = line-stands l ∙ statements-stand r

-- ---- a specification of such tokens is a file of lettings

parts-lettings : {ss : List Stm} {ts us : List Token} → Parts letting_word ss ts us → all_may_stand false ts ≡ true → PlainLettings ss ts us
parts-lettings (last_part (plain_letting_part l)) h = last_letting l
parts-lettings (last_part (domain_letting_part d)) h = cc
parts-lettings (last_part (unnamed_letting_part d)) h = cc
parts-lettings (next_part (plain_letting_part l) ps) h = next_letting l (parts-lettings ps (sym (letting-stands l) ∙ h))
parts-lettings (next_part (domain_letting_part d) ps) h = cc
parts-lettings (next_part (unnamed_letting_part d) ps) h = cc

statements-lettings : {ss : List Stm} {ts : List Token} → Statements ss ts → all_may_stand false ts ≡ true → LettingStatements ss ts
statements-lettings no_statements h = no_lettings
statements-lettings (more_statements (parts_statement begins_letting ps) r) h =
    let l = parts-lettings ps h in more_lettings l (statements-lettings r (sym (lettings-stand l) ∙ h))
statements-lettings (more_statements (parts_statement begins_given ps) r) h = cc
statements-lettings (more_statements (parts_statement begins_find ps) r) h = cc
statements-lettings (more_statements (parts_statement begins_where ps) r) h = cc
statements-lettings (more_statements (parts_statement begins_such_that ps) r) h = cc
statements-lettings (more_statements (minimising_statement d) r) h = cc
statements-lettings (more_statements (maximising_statement d) r) h = cc

-- A specification whose tokens may all stand in a file of lettings is one.
pub specification-lettings : {ss : List Stm} {ts : List Token} → IsSpecification ss ts → all_may_stand false ts ≡ true → IsLettingsFile ss ts
specification-lettings (specification l s) h = lettings_file l (statements-lettings s (sym (line-stands l) ∙ h))

-- ---- runs

-- Where the token may stand, the step is that of the machine.
pub step-stands : (b : Bool) (t : Token) (m : Mode) (fs : List Frame) → may_stand b t ≡ true → lettings_step b t m fs ≡ step t m fs
step-stands b t m fs h = ap (λ c. elim c [ true ↦ step t m fs | false ↦ None ]) h

-- Where it may not, the reader stops.
pub step-stops : (b : Bool) (t : Token) (m : Mode) (fs : List Frame) → may_stand b t ≡ false → lettings_step b t m fs ≡ None
step-stops b t m fs h = ap (λ c. elim c [ true ↦ step t m fs | false ↦ None ]) h

run-then : (r : Option State) (k l : Mode → List Frame → Option Answer) → ((m : Mode) (fs : List Frame) → k m fs ≡ l m fs) → then_run r k ≡ then_run r l
run-then None k l h = refl
run-then (Some r) k l h = h r.mode r.frames

run-stands : (b : Bool) (ts : List Token) (m : Mode) (fs : List Frame) → all_may_stand b ts ≡ true → lettings_run b ts m fs ≡ run ts m fs
run-stands b [] m fs h = refl
run-stands b (t ∷ ts) m fs h =
    ap (λ r. then_run r (lettings_run (is_type_word t) ts)) (step-stands b t m fs (and-left (may_stand b t) (all_may_stand (is_type_word t) ts) h))
    ∙ run-then (step t m fs) (lettings_run (is_type_word t) ts) (run ts) (λ n gs. run-stands (is_type_word t) ts n gs (and-right (may_stand b t) (all_may_stand (is_type_word t) ts) h))

-- A file of lettings that the rules derive is read.
pub lettings-complete : {ss : List Stm} {ts : List Token} → IsLettingsFile ss ts → read_lettings ts ≡ Some (specification_answer ss)
lettings-complete {ts = ts} d = run-stands false ts nothing_read [] (file-stands d) ∙ complete-specification (file-specification d).0

-- Each list of tokens is at most one file of lettings.
pub one-file : {rs ss : List Stm} {ts : List Token} → IsLettingsFile rs ts → IsLettingsFile ss ts → rs ≡ ss
one-file {rs = rs} {ss = ss} d g = let h : Some (specification_answer rs) ≡ Some (specification_answer ss) = sym (lettings-complete d) ∙ lettings-complete g in cc

both-true : (a b : Bool) → a ≡ true → b ≡ true → (a && b) ≡ true
both-true true b h k = k
both-true false b h k = cc

none-answers : (ts : List Token) (b : Bool) (x : Answer) (r : Option State) → r ≡ None → then_run r (lettings_run b ts) ≡ Some x → ⊥
none-answers ts b x None h k = cc
none-answers ts b x (Some r) h k = cc

rest-stands : (ts : List Token) (b : Bool) (x : Answer) (r : Option State) → ((m : Mode) (fs : List Frame) → lettings_run b ts m fs ≡ Some x → all_may_stand b ts ≡ true) →
    then_run r (lettings_run b ts) ≡ Some x → all_may_stand b ts ≡ true
rest-stands ts b x None f k = cc
rest-stands ts b x (Some r) f k = f r.mode r.frames k

answered-stands : (b : Bool) (ts : List Token) (m : Mode) (fs : List Frame) (x : Answer) → lettings_run b ts m fs ≡ Some x → all_may_stand b ts ≡ true
answered-stands b [] m fs x h = refl
answered-stands b (t ∷ ts) m fs x h =
    by_bool (may_stand b t)
    (λ k. both-true (may_stand b t) (all_may_stand (is_type_word t) ts) k
    (rest-stands ts (is_type_word t) x (lettings_step b t m fs) (λ n gs q. answered-stands (is_type_word t) ts n gs x q) h))
    (λ k. absurd (none-answers ts (is_type_word t) x (lettings_step b t m fs) (step-stops b t m fs k) h))

-- A file of lettings that is read is derived.
pub lettings-sound : (ts : List Token) (ss : List Stm) → read_lettings ts ≡ Some (specification_answer ss) → IsLettingsFile ss ts
lettings-sound ts ss h =
    let k = answered-stands false ts nothing_read [] (specification_answer ss) h in
    specification-lettings (subst (λ r. IsSound ts r) (sym (run-stands false ts nothing_read [] k) ∙ h) (sound-specification ts)) k

-- ---- where the reader stops

stopped-at : (ts us : List Token) (b : Bool) (r : Option State) → ((m : Mode) (fs : List Frame) → lettings_state_after b ts m fs ≡ None → lettings_run b (ts ++ us) m fs ≡ None) →
    then_state_after r (lettings_state_after b ts) ≡ None → then_run r (lettings_run b (ts ++ us)) ≡ None
stopped-at ts us b None k h = refl
stopped-at ts us b (Some r) k h = k r.mode r.frames h

stopped : (ts us : List Token) (b : Bool) (m : Mode) (fs : List Frame) → lettings_state_after b ts m fs ≡ None → lettings_run b (ts ++ us) m fs ≡ None
stopped [] us b m fs h = cc
stopped (t ∷ ts) us b m fs h = stopped-at ts us (is_type_word t) (lettings_step b t m fs) (λ n gs k. stopped ts us (is_type_word t) n gs k) h

-- No file of lettings begins with tokens at which the reader has stopped.
pub no-file : (ts us : List Token) (ss : List Stm) → lettings_state_after false ts nothing_read [] ≡ None → IsLettingsFile ss (ts ++ us) → ⊥
no-file ts us ss h d = let k = stopped ts us false nothing_read [] h in let c = lettings-complete d in cc
