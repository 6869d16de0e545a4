pub mod ChoiceLaws
pub mod BytesLaws
pub mod TextLaws
pub mod PiecesLaws
pub mod PieceEndLaws
pub mod PartsLaws
