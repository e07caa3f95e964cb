pub mod NumbersAndValues
