pub mod WideLaws
pub mod CounterInCode
