pub mod LayoutCorrect
use LayoutCorrect.*
