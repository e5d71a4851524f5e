mod IndexLists
mod Examples
