use Rattle.std.proofs.lemmas.Result.{on_ok_weaker}
use Rattle.ess_print.proofs.StatementParts.{let-domain-put, let-enum-put, let-unnamed-put}
use Rattle.ess_print.proofs.statements.put_stm.Goals as goal

pub returns-in_ok-push_str-in-LetDom : goal.returns-in_ok-push_str-in-LetDom
returns-in_ok-push_str-in-LetDom c =
    on_ok_weaker c.put_dom.result (λ h. let-domain-put c.in-LetDom.is c.get-in-LetDom.ensures c.in_ok-put_let-in-LetDom.ensures c.in_ok-push_str-in-LetDom.ensures.ok h) c.put_dom.ensures

pub returns-in_ok-put_names-in-LetEnum : goal.returns-in_ok-put_names-in-LetEnum
returns-in_ok-put_names-in-LetEnum c =
    on_ok_weaker c.push_str-in-LetEnum-2.result
    (λ g. let-enum-put c.in-LetEnum.is c.in_ok-put_let-in-LetEnum.ensures c.in_ok-push_str-in-LetEnum.ensures.ok c.as_slice.ensures c.in_ok-put_names-in-LetEnum.ensures g)
    c.push_str-in-LetEnum-2.ensures.ok

pub returns-in_ok-push_str-in-LetUnnamed : goal.returns-in_ok-push_str-in-LetUnnamed
returns-in_ok-push_str-in-LetUnnamed c =
    on_ok_weaker c.put_ex-in-LetUnnamed.result (λ h. let-unnamed-put c.in-LetUnnamed.is c.get-in-LetUnnamed.ensures c.in_ok-put_let-in-LetUnnamed.ensures c.in_ok-push_str-in-LetUnnamed.ensures.ok h) c.put_ex-in-LetUnnamed.ensures
