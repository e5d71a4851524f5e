-- What the grammar reads: records with a name for each component, and relations with a component. So each statement of a header is read.
use Rattle.std.proofs.Common.{◌≡◌, refl, ap, suc, List, [], ◌∷◌, map, length}
use Rattle.std.specs.declared.cmp.Ordering.{Ordering}
use Rattle.std.specs.declared.cmp.Ordering.TheVariants.{Less, Equal, Greater}
use Rattle.ess_semantics.specs.Lists.{zip}
use Rattle.ess_semantics.specs.Values.{Text}
use Rattle.ess_semantics.specs.Order.{order_text}
use Rattle.ess_semantics.specs.Names.{Names, keys, insert_by, insert_name, by_name}
use Rattle.ess_semantics.specs.Trees.{Repr, Dom, Doms, no_doms, more_doms, Stm, given, find}
use Rattle.ess_semantics.specs.Kinds.{dom_list, doms_of}
use Rattle.ess_semantics.specs.Contexts.{Each}
use Rattle.ess_semantics.specs.ModelTrees.{Header}
use Rattle.ess_grammar.specs.Words.{Token, Word}
use Rattle.ess_grammar.specs.Grammar.{record_of, sorted_record, Domain, Domains, FieldDomains}
use Rattle.ess_grammar.specs.Grammar.{bool_domain, int_domain, ranges_domain, name_domain, pair_domain, tuple_domain, record_domain, matrix_domain, set_domain, mset_domain, partition_domain, relation_domain, function_domain, plain_function_domain, last_domain, next_domain, last_field_domain, next_field_domain}
use Rattle.ess_grammar.specs.Statements.{Part, given_part, given_enum_part, find_part, plain_letting_part, domain_letting_part, unnamed_letting_part, where_part, such_that_part, PlainLetting, value_letting, enum_letting, Parts, last_part, next_part, Statement, parts_statement, minimising_statement, maximising_statement}
use Rattle.ess_grammar.specs.HeaderTexts.{StatementLines, no_more_statements, next_statement_line, IsHeader, header}
use Rattle.conjure_laws.specs.Fields.{HasFields, AllHaveFields, HasItsFields}
use Rattle.conjure_laws.proofs.Lists.{each-append}
use Rattle.ess_translate_ready_laws.proofs.RelationParts.{HasParts, AllHaveParts, HasItsParts}

-- The records in a domain have their fields, and the relations their components.
abbrev Whole : Dom → Type 0
Whole d = HasFields d × HasParts d

abbrev AllWhole : Doms → Type 0
AllWhole ds = AllHaveFields ds × AllHaveParts ds

-- ---- fields in the order of their names

module _ (P : Text × Dom → Type 0) where
  each-by : (o : Ordering) (b c : Text × Dom) (cs rest : Names Dom) → P b → P c → Each cs P → Each rest P → Each (insert_by o b c cs rest) P
  each-by Greater b c cs rest h k l m = (k, m)
  each-by Less b c cs rest h k l m = (h, (k, l))
  each-by Equal b c cs rest h k l m = (h, (k, l))

  each-insert : (b : Text × Dom) (cs : Names Dom) → P b → Each cs P → Each (insert_name b cs) P
  each-insert b [] h k = (h, tt)
  each-insert b (c ∷ cs) h k = each-by (order_text b.0 c.0) b c cs (insert_name b cs) h k.0 k.1 (each-insert b cs h k.1)

  each-by-name : (bs : Names Dom) → Each bs P → Each (by_name bs) P
  each-by-name [] h = tt
  each-by-name (b ∷ bs) h = each-insert b (by_name bs) h.0 (each-by-name bs h.1)

each-zip : (fs : List Text) (ds : Doms) → AllWhole ds → Each (zip fs (dom_list ds)) (λ x. Whole x.1)
each-zip [] ds h = tt
each-zip (f ∷ fs) no_doms h = tt
each-zip (f ∷ fs) (more_doms d ds) h = ((h.0.0, h.1.0), each-zip fs ds (h.0.1, h.1.1))

as-many : (xs : Names Dom) → length (keys xs) ≡ length (dom_list (doms_of (map (λ x. x.1) xs)))
as-many [] = refl
as-many (x ∷ xs) = ap suc (as-many xs)

all-whole : (xs : Names Dom) → Each xs (λ x. Whole x.1) → AllWhole (doms_of (map (λ x. x.1) xs))
all-whole [] h = (tt, tt)
all-whole (x ∷ xs) h = let r = all-whole xs h.1 in ((h.0.0, r.0), (h.0.1, r.1))

record-whole : (xs : Names Dom) → Each xs (λ x. Whole x.1) → Whole (record_of xs)
record-whole xs h = let r = all-whole xs h in ((as-many xs, r.0), r.1)

sorted-whole : (fs : List Text) (ds : Doms) → AllWhole ds → Whole (sorted_record fs ds)
sorted-whole fs ds h =
    record-whole (by_name (zip fs (dom_list ds))) (each-by-name (λ x. Whole x.1) (zip fs (dom_list ds)) (each-zip fs ds h))

-- ---- domains

mutual
  -- A domain that is read is whole.
  read-whole : {d : Dom} {ts us : List Token} → Domain d ts us → Whole d
  read-whole bool_domain = (tt, tt)
  read-whole int_domain = (tt, tt)
  read-whole (ranges_domain r) = (tt, tt)
  read-whole name_domain = (tt, tt)
  read-whole (pair_domain x xs) = let h = read-whole x in let k = read-all xs in ((h.0, k.0), (h.1, k.1))
  read-whole (tuple_domain xs) = let k = read-all xs in (k.0, k.1)
  read-whole (record_domain {fs = fs} {ds = ds} xs) = sorted-whole fs ds (read-fields xs)
  read-whole (matrix_domain xs x) = let h = read-whole x in (h.0, h.1)
  read-whole (set_domain m x) = let h = read-whole x in (h.0, h.1)
  read-whole (mset_domain m x) = let h = read-whole x in (h.0, h.1)
  read-whole (partition_domain m x) = let h = read-whole x in (h.0, h.1)
  read-whole (relation_domain m x xs) = let h = read-whole x in let k = read-all xs in ((h.0, k.0), (h.1, k.1))
  read-whole (function_domain m x y) = let h = read-whole x in let k = read-whole y in ((h.0, k.0), (h.1, k.1))
  read-whole (plain_function_domain s x y) = let h = read-whole x in let k = read-whole y in ((h.0, k.0), (h.1, k.1))

  read-all : {t : Token} {ds : Doms} {ts us : List Token} → Domains t ds ts us → AllWhole ds
  read-all (last_domain x) = let h = read-whole x in ((h.0, tt), (h.1, tt))
  read-all (next_domain x xs) = let h = read-whole x in let k = read-all xs in ((h.0, k.0), (h.1, k.1))

  read-fields : {fs : List Text} {ds : Doms} {ts us : List Token} → FieldDomains fs ds ts us → AllWhole ds
  read-fields (last_field_domain x) = let h = read-whole x in ((h.0, tt), (h.1, tt))
  read-fields (next_field_domain x xs) = let h = read-whole x in let k = read-fields xs in ((h.0, k.0), (h.1, k.1))

-- ---- statements

-- What a statement declares as it is written is whole.
abbrev IsWholeStm : Stm → Type 0
IsWholeStm s = HasItsFields s × HasItsParts s

all-given : (ns : List Text) (d : Dom) → Whole d → Each (map (λ a. given a d) ns) IsWholeStm
all-given [] d h = tt
all-given (n ∷ ns) d h = ((h.0, h.1), all-given ns d h)

all-found : (ns : List Text) (d : Dom) → Whole d → Each (map (λ a. find a d) ns) IsWholeStm
all-found [] d h = tt
all-found (n ∷ ns) d h = ((h.0, h.1), all-found ns d h)

letting-whole : {s : Stm} {ts us : List Token} → PlainLetting s ts us → IsWholeStm s
letting-whole (value_letting e) = (tt, tt)
letting-whole (enum_letting ns) = (tt, tt)

part-whole : {x : Word} {ss : List Stm} {ts us : List Token} → Part x ss ts us → Each ss IsWholeStm
part-whole (given_part {ns = ns} {d = d} l r) = all-given ns d (read-whole r)
part-whole given_enum_part = ((tt, tt), tt)
part-whole (find_part {ns = ns} {d = d} l r) = all-found ns d (read-whole r)
part-whole (plain_letting_part r) = (letting-whole r, tt)
part-whole (domain_letting_part r) = let h = read-whole r in ((h.0, h.1), tt)
part-whole (unnamed_letting_part r) = ((tt, tt), tt)
part-whole (where_part r) = ((tt, tt), tt)
part-whole (such_that_part r) = ((tt, tt), tt)

parts-whole : {x : Word} {ss : List Stm} {ts us : List Token} → Parts x ss ts us → Each ss IsWholeStm
parts-whole (last_part r) = part-whole r
parts-whole (next_part {ss = ss} {rs = rs} r rest) = each-append IsWholeStm ss rs (part-whole r) (parts-whole rest)

statement-whole : {ss : List Stm} {ts us : List Token} → Statement ss ts us → Each ss IsWholeStm
statement-whole (parts_statement b r) = parts-whole r
statement-whole (minimising_statement r) = ((tt, tt), tt)
statement-whole (maximising_statement r) = ((tt, tt), tt)

lines-whole : {ss : List Stm} {cs : Names (List Repr)} {ls : List Text} → StatementLines ss cs ls → Each ss IsWholeStm
lines-whole (no_more_statements r) = tt
lines-whole (next_statement_line r more) = ((statement-whole r.2).0, lines-whole more)

-- The domains of a header's statements are whole.
pub header-whole : {H : Header} {ls : List Text} → IsHeader H ls → Each H.statements IsWholeStm
header-whole (header r) = lines-whole r
