use Rattle.table_sizes.specs.Together.{head_few, threads_few, connections_few, inputs_few, locals_few, starts_told}
use borrow.Author.Rules.{rules}
use Rattle.table_sizes.proofs.starts.item_starts.Goals as goal

pub overflow_add-result : goal.overflow_add-result
overflow_add-result c = let a = head_few _ c.requires c.head_starts-head.ensures c.threads_starts-threads.ensures c.connections_starts-connections.ensures c.inputs_starts-inputs.ensures c.locals_starts-locals.ensures in
    let d = threads_few _ c.requires c.head_starts-head.ensures c.threads_starts-threads.ensures c.connections_starts-connections.ensures c.inputs_starts-inputs.ensures c.locals_starts-locals.ensures in
    let e = connections_few _ c.requires c.head_starts-head.ensures c.threads_starts-threads.ensures c.connections_starts-connections.ensures c.inputs_starts-inputs.ensures c.locals_starts-locals.ensures in
    let g = inputs_few _ c.requires c.head_starts-head.ensures c.threads_starts-threads.ensures c.connections_starts-connections.ensures c.inputs_starts-inputs.ensures c.locals_starts-locals.ensures in
    let f = locals_few _ c.requires c.head_starts-head.ensures c.threads_starts-threads.ensures c.connections_starts-connections.ensures c.inputs_starts-inputs.ensures c.locals_starts-locals.ensures in
    search rules

pub overflow_add-result-2 : goal.overflow_add-result-2
overflow_add-result-2 c = let a = head_few _ c.requires c.head_starts-head.ensures c.threads_starts-threads.ensures c.connections_starts-connections.ensures c.inputs_starts-inputs.ensures c.locals_starts-locals.ensures in
    let d = threads_few _ c.requires c.head_starts-head.ensures c.threads_starts-threads.ensures c.connections_starts-connections.ensures c.inputs_starts-inputs.ensures c.locals_starts-locals.ensures in
    let e = connections_few _ c.requires c.head_starts-head.ensures c.threads_starts-threads.ensures c.connections_starts-connections.ensures c.inputs_starts-inputs.ensures c.locals_starts-locals.ensures in
    let g = inputs_few _ c.requires c.head_starts-head.ensures c.threads_starts-threads.ensures c.connections_starts-connections.ensures c.inputs_starts-inputs.ensures c.locals_starts-locals.ensures in
    let f = locals_few _ c.requires c.head_starts-head.ensures c.threads_starts-threads.ensures c.connections_starts-connections.ensures c.inputs_starts-inputs.ensures c.locals_starts-locals.ensures in
    search rules

pub overflow_add-result-3 : goal.overflow_add-result-3
overflow_add-result-3 c = let a = head_few _ c.requires c.head_starts-head.ensures c.threads_starts-threads.ensures c.connections_starts-connections.ensures c.inputs_starts-inputs.ensures c.locals_starts-locals.ensures in
    let d = threads_few _ c.requires c.head_starts-head.ensures c.threads_starts-threads.ensures c.connections_starts-connections.ensures c.inputs_starts-inputs.ensures c.locals_starts-locals.ensures in
    let e = connections_few _ c.requires c.head_starts-head.ensures c.threads_starts-threads.ensures c.connections_starts-connections.ensures c.inputs_starts-inputs.ensures c.locals_starts-locals.ensures in
    let g = inputs_few _ c.requires c.head_starts-head.ensures c.threads_starts-threads.ensures c.connections_starts-connections.ensures c.inputs_starts-inputs.ensures c.locals_starts-locals.ensures in
    let f = locals_few _ c.requires c.head_starts-head.ensures c.threads_starts-threads.ensures c.connections_starts-connections.ensures c.inputs_starts-inputs.ensures c.locals_starts-locals.ensures in
    search rules

pub overflow_add-result-4 : goal.overflow_add-result-4
overflow_add-result-4 c = let a = head_few _ c.requires c.head_starts-head.ensures c.threads_starts-threads.ensures c.connections_starts-connections.ensures c.inputs_starts-inputs.ensures c.locals_starts-locals.ensures in
    let d = threads_few _ c.requires c.head_starts-head.ensures c.threads_starts-threads.ensures c.connections_starts-connections.ensures c.inputs_starts-inputs.ensures c.locals_starts-locals.ensures in
    let e = connections_few _ c.requires c.head_starts-head.ensures c.threads_starts-threads.ensures c.connections_starts-connections.ensures c.inputs_starts-inputs.ensures c.locals_starts-locals.ensures in
    let g = inputs_few _ c.requires c.head_starts-head.ensures c.threads_starts-threads.ensures c.connections_starts-connections.ensures c.inputs_starts-inputs.ensures c.locals_starts-locals.ensures in
    let f = locals_few _ c.requires c.head_starts-head.ensures c.threads_starts-threads.ensures c.connections_starts-connections.ensures c.inputs_starts-inputs.ensures c.locals_starts-locals.ensures in
    search rules

pub returns : goal.returns
returns c = starts_told _ c.requires c.head_starts-head.ensures c.threads_starts-threads.ensures c.connections_starts-connections.ensures c.inputs_starts-inputs.ensures c.locals_starts-locals.ensures
