mod Exported
