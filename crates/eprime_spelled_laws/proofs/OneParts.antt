-- The parts of a model in a list of tokens are one: behind the language line the tokens are a specification with them as statements.
use Rattle.std.proofs.Common.{◌≡◌, refl, sym, ap, ◌∙◌, subst, List, [], ◌∷◌, ◌++◌, map, append-nil}
use Rattle.ess_semantics.specs.Names.{Names}
use Rattle.ess_semantics.specs.Trees.{Ex, Dom, Stm, given, find, such_that, minimise, maximise}
use Rattle.ess_semantics.specs.ModelTrees.{Goal, no_goal, least, greatest}
use Rattle.ess_grammar.specs.Words.{Token, word, given_word, find_word, such_word, that_word}
use Rattle.ess_grammar.specs.Statements.{Parts, last_part, next_part, given_part, find_part, such_that_part, last_name, Statements, no_statements, more_statements, parts_statement, minimising_statement, maximising_statement, begins_given, begins_find, begins_such_that, IsSpecification, no_language_line, specification}
use Rattle.ess_grammar.specs.Models.{ReadModel}
use Rattle.ess_grammar.specs.ModelTexts.{Declarations, no_declarations, more_declarations, Objective, no_objective, minimising, maximising, Constraints, last_constraint, next_constraint, SuchThat, no_constraints, constraints, HasModelParts, model_parts}
use Rattle.ess_parse_laws.proofs.Uniqueness.{one_specification}
use Rattle.eprime_spelled_laws.specs.Laws.{OneListOfParts}

-- ---- parts as statements

abbrev givens_as : Names Dom → List Stm
givens_as gs = map (λ d. given d.0 d.1) gs

abbrev finds_as : Names Dom → List Stm
finds_as fs = map (λ d. find d.0 d.1) fs

abbrev goal_as : Goal → List Stm
goal_as no_goal = []
goal_as (least e) = minimise e ∷ []
goal_as (greatest e) = maximise e ∷ []

abbrev rules_as : List Ex → List Stm
rules_as es = map (λ e. such_that e) es

abbrev as_statements : ReadModel → List Stm
as_statements p = givens_as p.givens ++ (finds_as p.finds ++ (goal_as p.goal ++ rules_as p.rules))

givens-derived : {gs : Names Dom} {ts us : List Token} {ss : List Stm} → Declarations given_word gs ts us → Statements ss us →
    Statements (givens_as gs ++ ss) ts
givens-derived no_declarations w = w
givens-derived (more_declarations k ks) w =
    more_statements (parts_statement begins_given (last_part (given_part last_name k))) (givens-derived ks w)

finds-derived : {fs : Names Dom} {ts us : List Token} {ss : List Stm} → Declarations find_word fs ts us → Statements ss us →
    Statements (finds_as fs ++ ss) ts
finds-derived no_declarations w = w
finds-derived (more_declarations k ks) w =
    more_statements (parts_statement begins_find (last_part (find_part last_name k))) (finds-derived ks w)

goal-derived : {g : Goal} {ts us : List Token} {ss : List Stm} → Objective g ts us → Statements ss us → Statements (goal_as g ++ ss) ts
goal-derived no_objective w = w
goal-derived (minimising d) w = more_statements (minimising_statement d) w
goal-derived (maximising d) w = more_statements (maximising_statement d) w

rule-parts : {es : List Ex} {ts : List Token} → Constraints es ts → Parts such_word (rules_as es) ts []
rule-parts (last_constraint d) = last_part (such_that_part d)
rule-parts (next_constraint d ds) = next_part (such_that_part d) (rule-parts ds)

rules-derived : {es : List Ex} {ts : List Token} → SuchThat es ts → Statements (rules_as es) ts
rules-derived no_constraints = no_statements
rules-derived (constraints {es = es} {ts = ts} d) =
    subst (λ ss. Statements ss (word such_word ∷ word that_word ∷ ts)) (append-nil (rules_as es))
    (more_statements (parts_statement begins_such_that (rule-parts d)) no_statements)

-- What stands behind the five tokens of the language line.
abbrev behind_line : List Token → List Token
behind_line (a ∷ b ∷ c ∷ d ∷ e ∷ ts) = ts
behind_line ts = []

parts-derived : {p : ReadModel} {ts : List Token} → HasModelParts p ts → IsSpecification (as_statements p) (behind_line ts)
parts-derived (model_parts gs fs g es) =
    specification no_language_line (givens-derived gs (finds-derived fs (goal-derived g (rules-derived es))))

-- ---- statements as parts

abbrev parts : Names Dom → Names Dom → Goal → List Ex → ReadModel
parts gs fs g es = record { givens = gs; finds = fs; goal = g; rules = es }

-- The parts that the statements are.
abbrev as_parts : List Stm → ReadModel
as_parts [] = parts [] [] no_goal []
as_parts (given a d ∷ ss) = let r : ReadModel = as_parts ss in parts ((a, d) ∷ r.givens) r.finds r.goal r.rules
as_parts (find a d ∷ ss) = let r : ReadModel = as_parts ss in parts r.givens ((a, d) ∷ r.finds) r.goal r.rules
as_parts (minimise e ∷ ss) = let r : ReadModel = as_parts ss in parts r.givens r.finds (least e) r.rules
as_parts (maximise e ∷ ss) = let r : ReadModel = as_parts ss in parts r.givens r.finds (greatest e) r.rules
as_parts (such_that e ∷ ss) = let r : ReadModel = as_parts ss in parts r.givens r.finds r.goal (e ∷ r.rules)
as_parts (s ∷ ss) = as_parts ss

rules-back : (es : List Ex) → as_parts (rules_as es) ≡ parts [] [] no_goal es
rules-back [] = refl
rules-back (e ∷ es) = ap (λ r. parts r.givens r.finds r.goal (e ∷ r.rules)) (rules-back es)

goal-back : (g : Goal) (es : List Ex) → as_parts (goal_as g ++ rules_as es) ≡ parts [] [] g es
goal-back no_goal es = rules-back es
goal-back (least e) es = ap (λ r. parts r.givens r.finds (least e) r.rules) (rules-back es)
goal-back (greatest e) es = ap (λ r. parts r.givens r.finds (greatest e) r.rules) (rules-back es)

finds-back : (fs : Names Dom) (g : Goal) (es : List Ex) (ss : List Stm) → as_parts ss ≡ parts [] [] g es →
    as_parts (finds_as fs ++ ss) ≡ parts [] fs g es
finds-back [] g es ss h = h
finds-back (d ∷ fs) g es ss h = ap (λ r. parts r.givens ((d.0, d.1) ∷ r.finds) r.goal r.rules) (finds-back fs g es ss h)

givens-back : (gs fs : Names Dom) (g : Goal) (es : List Ex) (ss : List Stm) → as_parts ss ≡ parts [] fs g es →
    as_parts (givens_as gs ++ ss) ≡ parts gs fs g es
givens-back [] fs g es ss h = h
givens-back (d ∷ gs) fs g es ss h = ap (λ r. parts ((d.0, d.1) ∷ r.givens) r.finds r.goal r.rules) (givens-back gs fs g es ss h)

parts-back : (p : ReadModel) → as_parts (as_statements p) ≡ p
parts-back p =
    givens-back p.givens p.finds p.goal p.rules (finds_as p.finds ++ (goal_as p.goal ++ rules_as p.rules))
    (finds-back p.finds p.goal p.rules (goal_as p.goal ++ rules_as p.rules) (goal-back p.goal p.rules))

-- So they are one.
pub one-list-of-parts : OneListOfParts
one-list-of-parts p q ts d g =
    sym (parts-back p) ∙ ap as_parts (one_specification (parts-derived d) (parts-derived g)) ∙ parts-back q
