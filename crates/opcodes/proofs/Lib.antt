-- That the code's table of lengths is the rule.
pub mod Table
