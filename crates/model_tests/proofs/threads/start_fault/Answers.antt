use Rattle.std.proofs.Common.{sym, ◌∙◌}
use Rattle.model_words.specs.Words.{timing_in}
use Rattle.model_semantics.specs.StartLaws.{fault_state, fault_processor, fault_connections, fault_length, fault_none}
use Rattle.model_tests.proofs.threads.start_fault.Goals as goal

pub returns-then-not-is_ready : goal.returns-then-not-is_ready
returns-then-not-is_ready c = sym (fault_state _ _ _ _ (sym c.is_ready.ensures ∙ c.if-not-is_ready.true))

pub returns-then-not-is_free : goal.returns-then-not-is_free
returns-then-not-is_free c =
    let ready = sym c.is_ready.ensures ∙ c.if-not-is_ready.false in
    sym (fault_processor _ _ _ _ ready (sym (c.is_free.ensures (timing_in c.args.model.now) c.args.t) ∙ c.if-not-is_free.true))

pub returns-then-awaits_immediate : goal.returns-then-awaits_immediate
returns-then-awaits_immediate c =
    let ready = sym c.is_ready.ensures ∙ c.if-not-is_ready.false in
    let free = sym (c.is_free.ensures (timing_in c.args.model.now) c.args.t) ∙ c.if-not-is_free.false in
    sym (fault_connections _ _ _ _ ready free (sym c.awaits_immediate.ensures ∙ c.if-awaits_immediate.true))

pub returns-then-not-is_allowed : goal.returns-then-not-is_allowed
returns-then-not-is_allowed c =
    let ready = sym c.is_ready.ensures ∙ c.if-not-is_ready.false in
    let free = sym (c.is_free.ensures (timing_in c.args.model.now) c.args.t) ∙ c.if-not-is_free.false in
    sym (fault_length _ _ _ _ ready free (sym c.awaits_immediate.ensures ∙ c.if-awaits_immediate.false) (sym c.is_allowed.ensures ∙ c.if-not-is_allowed.true))

pub returns : goal.returns
returns c =
    let ready = sym c.is_ready.ensures ∙ c.if-not-is_ready.false in
    let free = sym (c.is_free.ensures (timing_in c.args.model.now) c.args.t) ∙ c.if-not-is_free.false in
    sym (fault_none _ _ _ _ ready free (sym c.awaits_immediate.ensures ∙ c.if-awaits_immediate.false) (sym c.is_allowed.ensures ∙ c.if-not-is_allowed.false))
