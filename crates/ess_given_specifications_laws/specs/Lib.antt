-- From judged trees to refined ones, with conditions where order counts
pub mod JudgedOrder
