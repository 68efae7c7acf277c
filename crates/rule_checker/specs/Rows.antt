-- Worked rows of the checker: what it makes of short programs, and which rule others violate. The texts stand above the
-- rows, and forms count from 1. The names have the numbers nil 0, a 1, x 2, r 3, v 4, e 5, b 6, y 7, w 8.
pub mod Written
pub mod Programs
pub mod Violations
pub mod Openings
