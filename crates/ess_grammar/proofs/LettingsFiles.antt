-- A file of lettings is a specification whose statements are lettings of values and of enumerated types.
use Rattle.std.proofs.Common.{◌≡◌, refl, Bool, true, ◌&&◌, List, [], ◌∷◌, ◌++◌, map}
use Rattle.ess_semantics.specs.Values.{Text}
use Rattle.ess_semantics.specs.Trees.{Dom, Stm, given, find}
use Rattle.ess_semantics.proofs.Tests.{and-left, and-right, and-both}
use Rattle.ess_grammar.specs.Words.{Token, letting_word}
use Rattle.ess_grammar.specs.Statements.{NameList, last_name, next_name, PlainLetting, value_letting, enum_letting, given_part, given_enum_part, find_part, plain_letting_part, domain_letting_part, unnamed_letting_part, where_part, such_that_part, Parts, last_part, next_part, begins_given, begins_find, begins_letting, begins_where, begins_such_that, parts_statement, minimising_statement, maximising_statement, Statements, no_statements, more_statements, IsSpecification, specification, PlainLettings, last_letting, next_letting, LettingStatements, no_lettings, more_lettings, IsLettingsFile, lettings_file}
use Rattle.ess_grammar.specs.Readable.{is_plain_letting}

-- Whether all are such lettings.
abbrev pub are_plain : List Stm → Bool
are_plain [] = true
are_plain (s ∷ ss) = is_plain_letting s && are_plain ss

plain-head : (rs ss : List Stm) → are_plain (rs ++ ss) ≡ true → are_plain rs ≡ true
plain-head [] ss h = refl
plain-head (r ∷ rs) ss h = and-both (is_plain_letting r) (are_plain rs) (and-left (is_plain_letting r) (are_plain (rs ++ ss)) h)
    (plain-head rs ss (and-right (is_plain_letting r) (are_plain (rs ++ ss)) h))

plain-tail : (rs ss : List Stm) → are_plain (rs ++ ss) ≡ true → are_plain ss ≡ true
plain-tail [] ss h = h
plain-tail (r ∷ rs) ss h = plain-tail rs ss (and-right (is_plain_letting r) (are_plain (rs ++ ss)) h)

plain-both : (rs ss : List Stm) → are_plain rs ≡ true → are_plain ss ≡ true → are_plain (rs ++ ss) ≡ true
plain-both [] ss h k = k
plain-both (r ∷ rs) ss h k = and-both (is_plain_letting r) (are_plain (rs ++ ss)) (and-left (is_plain_letting r) (are_plain rs) h)
    (plain-both rs ss (and-right (is_plain_letting r) (are_plain rs) h) k)

-- ---- a file is a specification

plain-letting : {s : Stm} {ts us : List Token} → PlainLetting s ts us → is_plain_letting s ≡ true
plain-letting (value_letting d) = refl
plain-letting (enum_letting ns) = refl

plain-cons : (s : Stm) (ss : List Stm) → is_plain_letting s ≡ true → are_plain ss ≡ true → are_plain (s ∷ ss) ≡ true
plain-cons s ss h k = and-both (is_plain_letting s) (are_plain ss) h k

parts-of : {ss : List Stm} {ts us : List Token} → PlainLettings ss ts us → Parts letting_word ss ts us × (are_plain ss ≡ true)
parts-of (last_letting {s = s} l) = (last_part (plain_letting_part l), plain-cons s [] (plain-letting l) refl)
parts-of (next_letting {s = s} {ss = ss} l ls) = let r = parts-of ls in
    (next_part (plain_letting_part l) r.0, plain-cons s ss (plain-letting l) r.1)

statements-of : {ss : List Stm} {ts : List Token} → LettingStatements ss ts → Statements ss ts × (are_plain ss ≡ true)
statements-of no_lettings = (no_statements, refl)
statements-of (more_lettings {ss = ss} {rs = rs} l r) =
    let p = parts-of l in let q = statements-of r in (more_statements (parts_statement begins_letting p.0) q.0, plain-both ss rs p.1 q.1)

pub file-specification : {ss : List Stm} {ts : List Token} → IsLettingsFile ss ts → IsSpecification ss ts × (are_plain ss ≡ true)
file-specification (lettings_file l r) = let s = statements-of r in (specification l s.0, s.1)

-- ---- such a specification is a file

no-given : {ns : List Text} {ts us : List Token} (d : Dom) → NameList ns ts us → are_plain (map (λ a. given a d) ns) ≡ true → ⊥
no-given d last_name h = cc
no-given d (next_name ns) h = cc

no-find : {ns : List Text} {ts us : List Token} (d : Dom) → NameList ns ts us → are_plain (map (λ a. find a d) ns) ≡ true → ⊥
no-find d last_name h = cc
no-find d (next_name ns) h = cc

lettings-of : {ss : List Stm} {ts us : List Token} → Parts letting_word ss ts us → are_plain ss ≡ true → PlainLettings ss ts us
lettings-of (last_part (plain_letting_part l)) h = last_letting l
lettings-of (last_part (domain_letting_part d)) h = cc
lettings-of (last_part (unnamed_letting_part d)) h = cc
lettings-of (next_part {rs = rs} (plain_letting_part {s = s} l) ps) h = next_letting l (lettings-of ps (plain-tail (s ∷ []) rs h))
lettings-of (next_part (domain_letting_part d) ps) h = cc
lettings-of (next_part (unnamed_letting_part d) ps) h = cc

file-of : {ss : List Stm} {ts : List Token} → Statements ss ts → are_plain ss ≡ true → LettingStatements ss ts
file-of no_statements h = no_lettings
file-of (more_statements {ss = ss} {rs = rs} (parts_statement begins_letting ps) r) h =
    more_lettings (lettings-of ps (plain-head ss rs h)) (file-of r (plain-tail ss rs h))
file-of (more_statements {rs = rs} (parts_statement begins_given (last_part (given_part {ns = ns} {d = d} a k))) r) h =
    absurd (no-given d a (plain-head (map (λ a. given a d) ns) rs h))
file-of (more_statements (parts_statement begins_given (last_part given_enum_part)) r) h = cc
file-of (more_statements {rs = rs} (parts_statement begins_given (next_part {rs = qs} (given_part {ns = ns} {d = d} a k) ps)) r) h =
    absurd (no-given d a (plain-head (map (λ a. given a d) ns) qs (plain-head (map (λ a. given a d) ns ++ qs) rs h)))
file-of (more_statements (parts_statement begins_given (next_part given_enum_part ps)) r) h = cc
file-of (more_statements {rs = rs} (parts_statement begins_find (last_part (find_part {ns = ns} {d = d} a k))) r) h =
    absurd (no-find d a (plain-head (map (λ a. find a d) ns) rs h))
file-of (more_statements {rs = rs} (parts_statement begins_find (next_part {rs = qs} (find_part {ns = ns} {d = d} a k) ps)) r) h =
    absurd (no-find d a (plain-head (map (λ a. find a d) ns) qs (plain-head (map (λ a. find a d) ns ++ qs) rs h)))
file-of (more_statements (parts_statement begins_where (last_part (where_part d))) r) h = cc
file-of (more_statements (parts_statement begins_where (next_part (where_part d) ps)) r) h = cc
file-of (more_statements (parts_statement begins_such_that (last_part (such_that_part d))) r) h = cc
file-of (more_statements (parts_statement begins_such_that (next_part (such_that_part d) ps)) r) h = cc
file-of (more_statements (minimising_statement d) r) h = cc
file-of (more_statements (maximising_statement d) r) h = cc

pub specification-file : {ss : List Stm} {ts : List Token} → IsSpecification ss ts → are_plain ss ≡ true → IsLettingsFile ss ts
specification-file (specification l s) h = lettings_file l (file-of s h)
