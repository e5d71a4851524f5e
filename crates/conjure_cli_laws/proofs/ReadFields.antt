-- The domains of a specification that a text is read as have a name for each component of a record.
use Rattle.std.proofs.Common.{◌≡◌, refl, ap, suc, List, [], ◌∷◌, map, length}
use Rattle.std.specs.declared.cmp.Ordering.{Ordering}
use Rattle.std.specs.declared.cmp.Ordering.TheVariants.{Less, Equal, Greater}
use Rattle.ess_semantics.specs.Values.{Text}
use Rattle.ess_semantics.specs.Lists.{zip}
use Rattle.ess_semantics.specs.Order.{order_text}
use Rattle.ess_semantics.specs.Names.{Names, keys, insert_by, insert_name, by_name}
use Rattle.ess_semantics.specs.Trees.{Dom, Doms, no_doms, more_doms, Stm, given, find}
use Rattle.ess_semantics.specs.Kinds.{dom_list, doms_of}
use Rattle.ess_semantics.specs.Contexts.{Each}
use Rattle.ess_grammar.specs.Words.{Token, Word}
use Rattle.ess_grammar.specs.Grammar.{Domain, bool_domain, int_domain, ranges_domain, name_domain, pair_domain, tuple_domain, record_domain, matrix_domain, set_domain, mset_domain, partition_domain, relation_domain, function_domain, plain_function_domain, Domains, last_domain, next_domain, FieldDomains, last_field_domain, next_field_domain, record_of}
use Rattle.ess_grammar.specs.Statements.{PlainLetting, value_letting, enum_letting, Part, given_part, given_enum_part, find_part, plain_letting_part, domain_letting_part, unnamed_letting_part, where_part, such_that_part, Parts, last_part, next_part, Statement, parts_statement, minimising_statement, maximising_statement, Statements, no_statements, more_statements, IsSpecification, specification}
use Rattle.ess_grammar.specs.Texts.{ReadsSpecification}
use Rattle.conjure_laws.specs.Fields.{HasFields, AllHaveFields, HasItsFields}
use Rattle.conjure_laws.proofs.Lists.{each-append}

-- ---- fields in the order of their names

abbrev Entry : Text × Dom → Type 0
Entry x = HasFields x.1

put-entry : (x : Text × Dom) (xs : Names Dom) → Entry x → Each xs Entry → Each (insert_name x xs) Entry
put-entry x [] h k = (h, tt)
put-entry x (y ∷ ys) h k = go (order_text x.0 y.0) (put-entry x ys h k.1)
  where
    go : (o : Ordering) → Each (insert_name x ys) Entry → Each (insert_by o x y ys (insert_name x ys)) Entry
    go Less r = (h, k)
    go Equal r = (h, k)
    go Greater r = (k.0, r)

by-name-each : (xs : Names Dom) → Each xs Entry → Each (by_name xs) Entry
by-name-each [] h = tt
by-name-each (x ∷ xs) h = put-entry x (by_name xs) h.0 (by-name-each xs h.1)

each-zip : (fs : List Text) (ds : Doms) → AllHaveFields ds → Each (zip fs (dom_list ds)) Entry
each-zip [] no_doms h = tt
each-zip [] (more_doms d ds) h = tt
each-zip (f ∷ fs) no_doms h = tt
each-zip (f ∷ fs) (more_doms d ds) h = (h.0, each-zip fs ds h.1)

as-long : (xs : Names Dom) → length (keys xs) ≡ length (dom_list (doms_of (map (λ (x : Text × Dom). x.1) xs)))
as-long [] = refl
as-long (x ∷ xs) = ap suc (as-long xs)

components : (xs : Names Dom) → Each xs Entry → AllHaveFields (doms_of (map (λ (x : Text × Dom). x.1) xs))
components [] h = tt
components (x ∷ xs) h = (h.0, components xs h.1)

record-fields : (xs : Names Dom) → Each xs Entry → HasFields (record_of xs)
record-fields xs h = (as-long xs, components xs h)

-- ---- domains

mutual
  read-domain : {d : Dom} {ts us : List Token} → Domain d ts us → HasFields d
  read-domain bool_domain = tt
  read-domain int_domain = tt
  read-domain (ranges_domain rs) = tt
  read-domain name_domain = tt
  read-domain (pair_domain d ds) = (read-domain d, read-domains ds)
  read-domain (tuple_domain ds) = read-domains ds
  read-domain (record_domain {fs = fs} {ds = ds} f) =
      record-fields (by_name (zip fs (dom_list ds))) (by-name-each (zip fs (dom_list ds)) (each-zip fs ds (read-fields f)))
  read-domain (matrix_domain is d) = read-domain d
  read-domain (set_domain as' d) = read-domain d
  read-domain (mset_domain as' d) = read-domain d
  read-domain (partition_domain as' d) = read-domain d
  read-domain (relation_domain as' d ds) = (read-domain d, read-domains ds)
  read-domain (function_domain as' d c) = (read-domain d, read-domain c)
  read-domain (plain_function_domain s d c) = (read-domain d, read-domain c)

  read-domains : {t : Token} {ds : Doms} {ts us : List Token} → Domains t ds ts us → AllHaveFields ds
  read-domains (last_domain d) = (read-domain d, tt)
  read-domains (next_domain d ds) = (read-domain d, read-domains ds)

  read-fields : {fs : List Text} {ds : Doms} {ts us : List Token} → FieldDomains fs ds ts us → AllHaveFields ds
  read-fields (last_field_domain d) = (read-domain d, tt)
  read-fields (next_field_domain d f) = (read-domain d, read-fields f)

-- ---- statements

givens-have : (ns : List Text) (d : Dom) → HasFields d → Each (map (λ a. given a d) ns) HasItsFields
givens-have [] d h = tt
givens-have (n ∷ ns) d h = (h, givens-have ns d h)

finds-have : (ns : List Text) (d : Dom) → HasFields d → Each (map (λ a. find a d) ns) HasItsFields
finds-have [] d h = tt
finds-have (n ∷ ns) d h = (h, finds-have ns d h)

letting-has : {s : Stm} {ts us : List Token} → PlainLetting s ts us → HasItsFields s
letting-has (value_letting e) = tt
letting-has (enum_letting ns) = tt

part-has : {w : Word} {ss : List Stm} {ts us : List Token} → Part w ss ts us → Each ss HasItsFields
part-has (given_part {ns = ns} {d = d} l k) = givens-have ns d (read-domain k)
part-has given_enum_part = (tt, tt)
part-has (find_part {ns = ns} {d = d} l k) = finds-have ns d (read-domain k)
part-has (plain_letting_part l) = (letting-has l, tt)
part-has (domain_letting_part k) = (read-domain k, tt)
part-has (unnamed_letting_part e) = (tt, tt)
part-has (where_part e) = (tt, tt)
part-has (such_that_part e) = (tt, tt)

parts-have : {w : Word} {ss : List Stm} {ts us : List Token} → Parts w ss ts us → Each ss HasItsFields
parts-have (last_part p) = part-has p
parts-have (next_part {ss = ss} {rs = rs} p ps) = each-append HasItsFields ss rs (part-has p) (parts-have ps)

statement-has : {ss : List Stm} {ts us : List Token} → Statement ss ts us → Each ss HasItsFields
statement-has (parts_statement b p) = parts-have p
statement-has (minimising_statement e) = (tt, tt)
statement-has (maximising_statement e) = (tt, tt)

statements-have : {ss : List Stm} {ts : List Token} → Statements ss ts → Each ss HasItsFields
statements-have no_statements = tt
statements-have (more_statements {ss = ss} {rs = rs} s ps) = each-append HasItsFields ss rs (statement-has s) (statements-have ps)

of-specification : {ss : List Stm} {ts : List Token} → IsSpecification ss ts → Each ss HasItsFields
of-specification (specification l s) = statements-have s

-- Whatever a text is read as, its domains have their fields.
pub read-have-fields : (text : Text) (S : List Stm) → ReadsSpecification text S → Each S HasItsFields
read-have-fields text S r = of-specification r.2
